-- Noting the indexes that were received, in a list of places that are true or false.
use Rattle.std.proofs.Common.{rules, ◌≡◌, ℕ, Bool, true, false, List, [], ◌∷◌, length, if◌then◌else◌, nat_le, nat_lt}
use Rattle.std.proofs.Common.{replicate, Result, Ok, Err, ap, subst, ◌∙◌}
use Rattle.std.proofs.Math.ListN.{get_or, set, get_or-eq_default}
use Rattle.std.proofs.lemmas.List.{get_or-replicate, length-replicate}
use Rattle.std.proofs.lemmas.List.Folds.{sum_by-replicate}
use Rattle.std.proofs.lemmas.List.Sums.{sum_by-set}
use Rattle.std.specs.List.{count_by}
use Rattle.rs_field.specs.declared.code.error.Error.{Error}
use Rattle.rs_field.specs.declared.code.error.Error.TheVariants.{InvalidOriginalShardIndex, DuplicateOriginalShardIndex}
use Rattle.rs_field.specs.declared.code.error.Error.TheVariants.{NotEnoughShards}
use Rattle.rs_field.specs.code.Outcome.{answer_of}
use Rattle.rs_field.specs.code.OneCall.{Items, one_by_one, note_outcome, originals_alone}
use Rattle.rs_rate.specs.objects.Giving.{Reaches, AreNoted}
use Rattle.rs_rate.proofs.objects_lemmas.Giving.{outcome-err}

-- Before the first index is noted, no place is true.
pub note_outcome-none : (n : ℕ) → AreNoted [] (replicate n false)
note_outcome-none n = search (rules, get_or-replicate, get_or-eq_default, length-replicate, sum_by-replicate)

-- The outcome of noting an index, from the test of its range and the test of its place.
abbrev pub tested : ℕ → ℕ → Bool → Bool → Result (Unit {0}) Error
tested count index outside taken =
    if outside then Err (InvalidOriginalShardIndex count index) else if taken
    then Err (DuplicateOriginalShardIndex index) else Ok tt

-- The test of an index has the result of noting the index.
note_outcome-tested : (count : ℕ) (indexes : List ℕ) (given : List Bool) (index : ℕ) → length given ≡ count
    → AreNoted indexes given
    → tested (length given) index (nat_le (length given) index) (get_or given index false)
    ≡ answer_of (note_outcome count indexes index)
note_outcome-tested count indexes given index size are = search rules

-- An error of the test of an index is the error of noting the index.
pub note_outcome-refused : {count : ℕ} {indexes : List ℕ} {given : List Bool} (index : ℕ) {e : Error}
    → length given ≡ count → AreNoted indexes given
    → Err e ≡ tested (length given) index (nat_le (length given) index) (get_or given index false)
    → note_outcome count indexes index ≡ Err e
note_outcome-refused {count} {indexes} {given} index {e} size are told =
    outcome-err (note_outcome count indexes index) e (told ∙ note_outcome-tested count indexes given index size are)

-- If the test of an index succeeds, noting the index adds it to the list.
pub note_outcome-added : {count : ℕ} {indexes : List ℕ} {given : List Bool} (index : ℕ) → length given ≡ count
    → AreNoted indexes given
    → Ok tt ≡ tested (length given) index (nat_le (length given) index) (get_or given index false)
    → note_outcome count indexes index ≡ Ok (index ∷ indexes)
note_outcome-added {count} {indexes} {given} index size are told = search rules

-- Setting the place of an index to true notes one more index.
pub note_outcome-more : {indexes : List ℕ} {given new : List Bool} (index : ℕ) → AreNoted indexes given
    → Ok tt ≡ tested (length given) index (nat_le (length given) index) (get_or given index false)
    → new ≡ set given index true → AreNoted (index ∷ indexes) new
note_outcome-more {indexes} {given} {new} index are told is = search (rules, sum_by-set)

-- Indexes are noted in k places that are all false at first, with a given result.
module _ (k : ℕ) (items : Items) (places given : List Bool) (result : Result (Unit {0}) Error)
    (filled : places ≡ replicate k false)
    (leads : Reaches (one_by_one (λ so_far item. note_outcome (length places) so_far item.0) [] items) result
    (λ all. AreNoted all given)) where
  outcome : Result (List ℕ) Error
  outcome = one_by_one (λ so_far item. note_outcome k so_far item.0) [] items

  led : Reaches outcome result (λ all. AreNoted all given)
  unfolding outcome
  led =
      subst (λ (n : ℕ). Reaches (one_by_one (λ so_far item. note_outcome n so_far item.0) [] items) result
      (λ all. AreNoted all given)) (ap length filled ∙ length-replicate k false)
      leads

  -- An error of noting is the result of `originals_alone`.
  pub originals_alone-refused : (e : Error) → result ≡ Err e → result ≡ originals_alone k items
  unfolding outcome
  originals_alone-refused e refused = search (rules, led)

  -- If all indexes were noted, the check of their number has the result of `originals_alone`.
  pub originals_alone-counted : (received : ℕ) → result ≡ Ok tt → received ≡ count_by (λ b. b) given
      → (if nat_lt received k then Err (NotEnoughShards k received 0) else Ok tt) ≡ originals_alone k items
  unfolding outcome
  originals_alone-counted received made number = search (rules, led)
