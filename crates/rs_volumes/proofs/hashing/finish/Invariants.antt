use Rattle.std.proofs.Common.{◌≡◌, ℕ, ◌≤◌, List, ◌++◌, get_or, take, vec_len}
use Rattle.std.specs.List.{flat_map}
use Rattle.sha2.specs.Sha256.{sha256}
use Rattle.sha2.specs.declared.Sha256.{Sha256}
use Rattle.rs_field.specs.code.Column.{Shard}
use Rattle.rs_volumes.specs.Hashing.{AreHashed}
use Rattle.rs_volumes.proofs.hashing.finish.Given as goal

abbrev pub invariant-loop-index : goal.invariant-loop-index
invariant-loop-index l =
    record {
      number : vec_len l.hashers ≡ vec_len l.fn.hashers;
      done : (blocks : List Shard) → AreHashed l.fn.hashers.items blocks
          → l.digests.items ≡ l.fn.digests.items ++ flat_map sha256 (take l.index blocks);
      rest : (i : ℕ) (d : Sha256) → l.index ≤ i → get_or l.hashers.items i d ≡ get_or l.fn.hashers.items i d;
    }
