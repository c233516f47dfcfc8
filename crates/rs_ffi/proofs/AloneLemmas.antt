-- Lemmas about indexes that are noted as bits of words.
use Rattle.std.proofs.Common.{rules, ◌≡◌, ◌≢◌, ℕ, ◌*◌, ◌/◌, ◌%◌, ◌^◌, ◌<◌, ◌≤◌, ◌||◌, List, [], ◌∷◌, length}
use Rattle.std.proofs.Common.{drop, if◌then◌else◌, nat_eq, nat_lt, get_or, set, replicate, bit_or, w64, Result, Ok, Err}
use Rattle.std.proofs.Common.{inl, inr, sym, ap, ◌∙◌, arith}
use Rattle.std.specs.Int.{bit_at}
use Rattle.std.specs.List.{list_any}
use Rattle.std.proofs.lemmas.Bool.{cases_eq, eq-eqb, ne_eqb}
use Rattle.std.proofs.lemmas.List.{get_or-set_other, get_or-set_same, get_or-replicate, length-replicate, drop_all}
use Rattle.std.proofs.Math.ListN.{get_or-eq_default}
use Rattle.std.proofs.lemmas.Nat.Bits.{bit_at_set_same, bit_at_set_other}
use Rattle.rs_field.specs.declared.code.error.Error.{Error}
use Rattle.rs_field.specs.declared.code.error.Error.TheVariants.{NotEnoughShards}
use Rattle.rs_field.specs.code.OneCall.{one_by_one, note_outcome, originals_alone}
use Rattle.rs_ffi.specs.declared.layouts.RsShard.{RsShard}
use Rattle.rs_ffi.specs.Alone.{AreNoted}
use Rattle.rs_ffi.specs.Arrays.{items_of}

-- Before the first index is noted, no bit is 1.
pub note_outcome-none : (n : ℕ) → AreNoted [] (replicate n 0)
note_outcome-none n i = search (rules, get_or-replicate, get_or-eq_default, length-replicate)

module _ (k index : ℕ) (indexes words : List ℕ) (inside : index < k) (few : k ≤ 65536) (size : length words ≡ 1024)
    (are : AreNoted indexes words)
    (free : bit_at (get_or words (index / 64) 0) (index % 64) ≢ 1) where
  -- After the bit of the index was set, the words note the index as well.
  pub note_outcome-more : AreNoted (index ∷ indexes)
      (set words (index / 64) (bit_or (get_or words (index / 64) 0) (1 * 2 ^ (index % 64) % 2 ^ 64)))
  note_outcome-more i = elim (cases_eq (i / 64) (index / 64)) [
    | inl word ↦ elim (cases_eq (i % 64) (index % 64)) [
      | inl bit ↦
          ap (λ n. bit_at (get_or (set words (index / 64) new) n 0) (i % 64)) word
          ∙ ap (λ w. bit_at w (i % 64)) (get_or-set_same words (index / 64) new 0 within)
          ∙ ap (bit_at new) bit ∙ bit_at_set_same w64 old (index % 64) (omega arith)
          ∙ sym (ap (λ b. if b || list_any (nat_eq i) indexes then 1 else 0)
          (eq-eqb i index (omega (arith, word, bit))))
      | inr bit ↦
          ap (λ n. bit_at (get_or (set words (index / 64) new) n 0) (i % 64)) word
          ∙ ap (λ w. bit_at w (i % 64)) (get_or-set_same words (index / 64) new 0 within)
          ∙ bit_at_set_other w64 old (index % 64) (omega arith) (i % 64) bit
          ∙ ap (λ n. bit_at (get_or words n 0) (i % 64)) (sym word) ∙ other (λ same. bit (ap (λ n. n % 64) same))
    ]
    | inr word ↦
        ap (λ w. bit_at w (i % 64)) (get_or-set_other words (index / 64) (i / 64) new 0 word)
        ∙ other (λ same. word (ap (λ n. n / 64) same))
  ]
    where
      old : ℕ
      old = get_or words (index / 64) 0

      new : ℕ
      new = bit_or old (1 * 2 ^ (index % 64) % 2 ^ 64)

      within : index / 64 < length words
      within = omega (arith, inside, few, size)

      other : (i ≡ index → ⊥)
          → bit_at (get_or words (i / 64) 0) (i % 64) ≡ (if list_any (nat_eq i) (index ∷ indexes) then 1 else 0)
      other apart = are i ∙ sym (ap (λ b. if b || list_any (nat_eq i) indexes then 1 else 0) (ne_eqb i index apart))

-- the outcome of noting the indexes of shards, if some indexes were noted before
abbrev pub noting : ℕ → List ℕ → List RsShard → Result (List ℕ) Error
noting k indexes shards = one_by_one (λ given item. note_outcome k given item.0) indexes (items_of shards)

-- If all indexes were noted, the result of the decode is found by comparing their number with k.
pub noting-done : (k : ℕ) (indexes : List ℕ) (shards : List RsShard)
    → noting k [] shards ≡ noting k indexes (drop (length shards) shards) → length indexes ≡ length shards
    → originals_alone k (items_of shards)
    ≡ (if nat_lt (length shards) k then Err (NotEnoughShards k (length shards) 0) else Ok tt)
noting-done k indexes shards leads number = search (rules, drop_all)
