-- Blocks that are noted as found.
use Rattle.std.proofs.Common.{ℕ, zero, suc, List, Option, Some, None, replicate, slice_set, subst, sym, inl, inr}
use Rattle.std.proofs.Common.{get_or-set_other}
use Rattle.std.proofs.lemmas.Bool.{cases_eq}
use Rattle.std.specs.Prelude.{IsSome}
use Rattle.rs_volumes.specs.Computed.{IsComputed, digest_at}
use Rattle.rs_volumes.specs.Found.{AreRight, IsFound}

-- the digest of a block was computed, and the block is noted as found
pub right_set : {P : Type 0} (digests : List ℕ) (places : List (Option P)) (index : ℕ) (place : P)
    → AreRight digests places → IsComputed (digest_at digests index)
    → AreRight digests (slice_set places index (Some place))
right_set digests places index place right own i found =
    elim (cases_eq i index) [
      | inl same ↦ subst (λ j. IsComputed (digest_at digests j)) (sym same) own
      | inr other ↦ right i (subst (λ p. IsSome p) (get_or-set_other places index i (Some place) None other) found)
    ]

-- at first no block was found
abbrev pub none_of : (P : Type 0) → ℕ → List (Option P)
none_of P count = replicate count None

pub none_found : (P : Type 0) (count i : ℕ) → IsFound (none_of P count) i → ⊥
none_found P zero i found = let no : ⊥ = cc in no
none_found P (suc count) zero found = let no : ⊥ = cc in no
none_found P (suc count) (suc i) found = none_found P count i found
