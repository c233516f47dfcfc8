-- A decode column by column: whether some message agrees, and what is restored.
use Rattle.std.proofs.Common.{◌≡◌, ℕ, ◌+◌, ◌-◌, ◌/◌, ◌%◌, ◌<◌, ◌≤◌, List, sym, ◌∙◌, arith}
use Rattle.std.specs.Prelude.{◌↔◌, true}
use Rattle.rs_field.specs.words.Field.{product, power}
use Rattle.rs_field.specs.words.Transform.{forward}
use Rattle.rs_field.specs.words.Locator.{log_sum}
use Rattle.rs_field.specs.words.Derivative.{IsDerivativeAdded}
use Rattle.rs_field.specs.code.Counts.{supports}
use Rattle.rs_field.specs.code.Column.{Shard, shard_at, column, columns}
use Rattle.rs_field.specs.code.Frame.{original_row, frame_at}
use Rattle.rs_field.specs.code.Configuration.{Configuration}
use Rattle.rs_field.specs.code.Decoder.{DecoderState, IsAgreeing, IsConsistent, originals_given, recovery_given}
use Rattle.rs_field.specs.code.Given.{Shards, count_below, Agrees}
use Rattle.rs_field.proofs.code_lemmas.Columns.{columns-at}
use Rattle.rs_field.proofs.code_lemmas.Given.{some_of}
use Rattle.rs_field.proofs.code_lemmas.Places.{fixed_by_places, places_given, by_place, count-by_place, codeword_given}
use Rattle.rs_field.proofs.code_lemmas.DecodedColumn.{IsColumnOf, surplus_rows, some_message, restored_word}
use Rattle.rs_field.proofs.code_lemmas.GivenRows.{AreGiven, erased_in, row_count_of, distinct}
use Rattle.rs_field.proofs.code_lemmas.AgreeingMessages.{column_taken, consistent}

-- The columns of a decode: in each column, the located words of the given shards, and the coefficients of the
-- polynomial whose values they are.
abbrev pub AreColumns : DecoderState → (ℕ → ℕ → ℕ) → (ℕ → ℕ → ℕ) → Type 0
AreColumns s located coefficients =
    (j : ℕ) → j < s.configuration.shard_bytes / 2 → IsColumnOf s j (located j) (coefficients j)

module _ {s : DecoderState} (g : AreGiven s) {located rows : ℕ → ℕ → ℕ} (h : AreColumns s located rows) where
  -- If k + t shards are given, some message agrees if and only if the last t rows are zero in every column.
  pub consistent_exactly : (t : ℕ) → s.configuration.shard_bytes % 2 ≡ 0
      → originals_given s + recovery_given s ≡ s.configuration.original_count + t
      → IsConsistent s
      ↔ ((j i : ℕ) → j < s.configuration.shard_bytes / 2 → row_count_of s ≤ i + t → i < row_count_of s → rows j i ≡ 0)
  consistent_exactly t even count = (
    λ some j i hj.
        let (p, codes, takes) = column_taken s j hj some.1 in
        surplus_rows g (h j hj) p (columns j some.0, codes, takes) t count i,
    λ none. consistent g even (λ j hj. some_message g (h j hj) t count (λ i. none j i hj)),
  )

  -- After the derivative step, the word in the row of a missing original, times the power for 65535 minus a residue of
  -- the locator, is the word of the message.
  pub restored_column : (message : List Shard) (added : ℕ → ℕ) (i j l : ℕ)
      → s.configuration.original_count ≤ originals_given s + recovery_given s
      → IsAgreeing s message → i < s.configuration.original_count → j < s.configuration.shard_bytes / 2
      → IsDerivativeAdded (row_count_of s) (rows j) added
      → erased_in s (original_row (frame_at s.configuration) i) ≡ 1
      → l ≤ 65535
      → power l ≡ power (log_sum (row_count_of s) (erased_in s) (original_row (frame_at s.configuration) i))
      → product (forward (row_count_of s) 0 added (original_row (frame_at s.configuration) i)) (power (65535 - l))
      ≡ column j (shard_at message i)
  restored_column message added i j l enough agrees hi hj step one hl same =
      let (p, codes, takes) = column_taken s j hj agrees in
      restored_word g (h j hj) p (columns j message, codes, takes) added
      (original_row (frame_at s.configuration) i) l enough step
      (omega (arith, (distinct g).originals, hi)) one hl same
      ∙ codes.originals i hi ∙ columns-at j message i

-- If at least k shards are given, at most one message agrees.
pub one_message : {c : Configuration} {originals recovery : Shards} {one other : List Shard}
    → supports c.rate c.original_count c.recovery_count ≡ true → c.shard_bytes % 2 ≡ 0
    → c.original_count ≤ count_below c.original_count originals + count_below c.recovery_count recovery
    → Agrees c originals recovery one → Agrees c originals recovery other → one ≡ other
one_message {c} {originals} {recovery} {one} {other} is even enough a b =
    let (place, are, some) =
    places_given (c.original_count + c.recovery_count) (by_place c.original_count originals recovery) in
    let count = count-by_place c.original_count c.recovery_count originals recovery in
    fixed_by_places c one other a.coded.0 b.coded.0 place is even a.shards b.shards a.coded.1 b.coded.1
    (record { below = λ i h. are.below i (omega arith); once = λ i j h k. are.once i j (omega arith) (omega arith) })
    (λ i h.
    let s = some_of (by_place c.original_count originals recovery (place i)) (some i (omega arith)) in
    codeword_given a (place i) s.0 s.1
    ∙ sym (codeword_given b (place i) s.0 s.1))
