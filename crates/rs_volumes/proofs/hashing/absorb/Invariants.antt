use Rattle.std.proofs.Common.{◌≡◌, ℕ, ◌<◌, ◌≤◌, List, [], ◌++◌, length, get_or}
use Rattle.std.specs.Prelude.{map}
use Rattle.sha2.specs.Hashers.{Holds256}
use Rattle.sha2.specs.declared.Sha256.{Sha256}
use Rattle.rs_volumes.specs.Hashing.{emptied}
use Rattle.rs_volumes.proofs.hashing.absorb.Given as goal

abbrev pub invariant-loop-index : goal.invariant-loop-index
invariant-loop-index l =
    record {
      number : length l.hashers.items ≡ length l.pieces;
      done : (i : ℕ) (d : Sha256) (m : List ℕ) → i < l.index → Holds256 (get_or l.fn.hashers.items i d) m
          → Holds256 (get_or l.hashers.items i d) (m ++ get_or (emptied l.marks (map (λ p. p.items) l.pieces)) i []);
      rest : (i : ℕ) (d : Sha256) → l.index ≤ i → get_or l.hashers.items i d ≡ get_or l.fn.hashers.items i d;
    }
