-- The words of shards that were not received, in one column, as direct sums over the received points.
use Rattle.std.proofs.Common.{◌≡◌, ℕ, ◌+◌, ◌/◌, ◌^◌, ◌<◌, ◌≤◌, Bool, false, cond, List, sym, ap, ◌∙◌, arith, inl, inr}
use Rattle.std.proofs.Common.{pow_mono}
use Rattle.std.specs.Prelude.{is_some}
use Rattle.rs_field.specs.words.Polynomial.{value}
use Rattle.rs_field.specs.words.Locator.{IsLocatorBelow}
use Rattle.rs_field.specs.words.DirectSum.{direct_sum}
use Rattle.rs_field.specs.code.Column.{Shard, shard_at, column, columns}
use Rattle.rs_field.specs.code.Frame.{original_row, recovery_row, frame_at}
use Rattle.rs_field.specs.code.Decoder.{DecoderState, IsAgreeing, originals_given, recovery_given}
use Rattle.rs_field.proofs.words_lemmas.DirectSum.{direct_value}
use Rattle.rs_field.proofs.code_lemmas.Columns.{columns-at}
use Rattle.rs_field.proofs.code_lemmas.Unique.{codes_unique}
use Rattle.rs_field.proofs.code_lemmas.GivenRows.{AreGiven, erased_in, words_in, row_count_of, distinct, erasures}
use Rattle.rs_field.proofs.code_lemmas.GivenRows.{cases_given, erased-given, word-none}
use Rattle.rs_field.proofs.code_lemmas.GivenRows.{shard_in_row-own, shard_in_row-coded}
use Rattle.rs_field.specs.code.DirectLaws.{shard_in_row}
use Rattle.rs_field.proofs.code_lemmas.ErasedCount.{counted}
use Rattle.rs_field.proofs.code_lemmas.DecodedColumn.{IsTaken, taken_from}
use Rattle.rs_field.proofs.code_lemmas.AgreeingMessages.{column_taken}

-- The rows of the received shards, and the locator of the erased rows.
pub record IsLocated (s : DecoderState) (received : ℕ → Bool) (locator : ℕ → ℕ) : Type 0 where
  pub rows : (x : ℕ) → x < row_count_of s → received x ≡ is_some (shard_in_row s x)
  pub logarithms : IsLocatorBelow (row_count_of s) (erased_in s) locator
  pub most : (x : ℕ) → x < row_count_of s → locator x ≤ 65535

module _ {s : DecoderState} (g : AreGiven s) {received : ℕ → Bool} {locator : ℕ → ℕ}
    (l : IsLocated s received locator) (i : ℕ) where
  -- The row of an original or of a recovery shard is received exactly if the shard is given.
  pub received-own : i < s.configuration.original_count
      → received (original_row (frame_at s.configuration) i) ≡ is_some (s.originals i)
  received-own hi =
      l.rows (original_row (frame_at s.configuration) i) (omega (arith, (distinct g).originals, hi))
      ∙ ap is_some (shard_in_row-own s i hi)

  pub received-coded : i < s.configuration.recovery_count
      → received (recovery_row (frame_at s.configuration) i) ≡ is_some (s.recovery i)
  received-coded hi =
      l.rows (recovery_row (frame_at s.configuration) i) (omega (arith, (distinct g).recovery, hi))
      ∙ ap is_some (shard_in_row-coded s i (distinct g) hi)

module _ {s : DecoderState} (g : AreGiven s) {received : ℕ → Bool} {locator : ℕ → ℕ}
    (l : IsLocated s received locator)
    (enough : s.configuration.original_count ≤ originals_given s + recovery_given s) where
  -- The direct sum at an erased point is the value of the polynomial of the column.
  direct_word : (j : ℕ) (p : List ℕ) → IsTaken s j p → (x : ℕ) → x < row_count_of s → erased_in s x ≡ 1
      → direct_sum (row_count_of s) received locator (words_in s j) x ≡ value p x
  direct_word j p taken x hx one =
      let (q, takes, same) = taken_from g p taken in
      direct_value (frame_at s.configuration).exponent x locator (distinct g).few (erasures g).are_marks
      (omega (arith, counted g, enough)) takes (record {
        added = λ z hz none. elim (cases_given s z) [
          | inl some ↦ inl (l.rows z hz ∙ ap is_some some.1)
          | inr empty ↦ inr (word-none s j z empty)
        ];
        erased = λ z hz marked. elim (cases_given s z) [
          | inl some ↦ let none = erased-given s z some.0 some.1 in absurd (omega (arith, marked, none))
          | inr empty ↦ l.rows z hz ∙ ap is_some empty
        ];
      }) l.logarithms (l.most x hx) hx one
      ∙ same x hx

  module _ {message : List Shard} (agrees : IsAgreeing s message) (i j : ℕ)
      (hj : j < s.configuration.shard_bytes / 2) where
    -- The direct sum at the point of an original that is not given is the word of this original.
    pub direct_original : i < s.configuration.original_count → is_some (s.originals i) ≡ false
        → direct_sum (row_count_of s) received locator (words_in s j) (original_row (frame_at s.configuration) i)
        ≡ column j (shard_at message i)
    direct_original hi missing =
        let (p, codes, takes) = column_taken s j hj agrees in
        direct_word j p (columns j message, codes, takes) (original_row (frame_at s.configuration) i)
        (omega (arith, (distinct g).originals, hi)) ((erasures g).own i hi ∙ ap (λ (b : Bool). cond b 0 1) missing)
        ∙ codes.originals i hi ∙ columns-at j message i

    -- The direct sum at the point of a recovery shard that is not given is the word of this recovery shard.
    pub direct_recovery : i < s.configuration.recovery_count → is_some (s.recovery i) ≡ false
        → direct_sum (row_count_of s) received locator (words_in s j) (recovery_row (frame_at s.configuration) i)
        ≡ column j (shard_at agrees.coded.0 i)
    direct_recovery hi missing =
        let c = s.configuration in
        let (p, codes, takes) = column_taken s j hj agrees in
        let (o, codes_o, at) = agrees.coded.1.words j hj in
        let f = distinct g in
        let room : row_count_of s ≤ 2 ^ 16 = pow_mono f.few in
        direct_word j p (columns j message, codes, takes) (recovery_row (frame_at s.configuration) i)
        (omega (arith, f.recovery, hi)) ((erasures g).coded i hi ∙ ap (λ (b : Bool). cond b 0 1) missing)
        ∙ ap (λ (q : List ℕ). value q (recovery_row (frame_at s.configuration) i)) (codes_unique
        (omega (arith, f.originals, room)) codes codes_o) ∙ sym (at i hi) ∙ columns-at j agrees.coded.0 i
