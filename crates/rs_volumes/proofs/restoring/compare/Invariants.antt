use Rattle.std.proofs.Common.{◌≡◌, ℕ, ◌<◌, ◌≤◌, true, false, length, get_or}
use Rattle.sha2.specs.Hashers.{Holds256}
use Rattle.sha2.specs.declared.Sha256.{Sha256}
use Rattle.rs_field.specs.code.Column.{Shard}
use Rattle.rs_volumes.specs.Restoring.{HasDigest}
use Rattle.rs_volumes.proofs.restoring.compare.Given as goal

abbrev pub invariant-loop-index : goal.invariant-loop-index
invariant-loop-index l =
    record {
      number : length l.hashers.items ≡ length l.fn.hashers.items;
      done : (i : ℕ) (d : Sha256) (bytes : Shard) → i < l.index → get_or l.wanted i false ≡ true
          → Holds256 (get_or l.fn.hashers.items i d) bytes → HasDigest l.digests i bytes;
      rest : (i : ℕ) (d : Sha256) → l.index ≤ i → get_or l.hashers.items i d ≡ get_or l.fn.hashers.items i d;
    }
