use Rattle.std.proofs.Common.{◌≡◌, ℕ, ◌<◌, [], get_or, vec_len}
use Rattle.sha2.specs.Hashers.{Holds256}
use Rattle.sha2.specs.declared.Sha256.{Sha256}
use Rattle.rs_volumes.proofs.hashing.new_hashers.Given as goal

abbrev pub invariant-loop : goal.invariant-loop
invariant-loop l =
    record {
      number : vec_len l.hashers ≡ l.counter;
      each : (i : ℕ) (d : Sha256) → i < l.counter → Holds256 (get_or l.hashers.items i d) [];
    }
