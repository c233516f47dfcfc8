-- Marking a base: the first received shards, as many as there are originals.
use Rattle.std.proofs.Common.{◌≡◌, ℕ, ◌+◌, ◌<◌, ◌≤◌, Bool, true, false, List, length, rules}
use Rattle.std.proofs.Common.{sym, ap, ap₂, ◌∙◌, inl, inr, arith, take, true≢false}
use Rattle.std.specs.Prelude.{Ok, Option, is_some, option_copied}
use Rattle.std.specs.Borrow.{Bor}
use Rattle.std.proofs.lemmas.Bool.{cases_lt, cases_Bool}
use Rattle.std.proofs.lemmas.List.{get_or-take, get_or_past, length-take-le}
use Rattle.rs_field.specs.code.Column.{Shard}
use Rattle.rs_field.specs.code.Counts.{default_rate}
use Rattle.rs_field.specs.code.Decoder.{DecoderState, IsDecoder, enough_given, originals_given, recovery_given}
use Rattle.rs_field.specs.code.Frame.{row_count, original_row, recovery_row, frame_at}
use Rattle.rs_field.specs.rows.MarkedRows.{is_marked}
use Rattle.rs_field.proofs.code_lemmas.Frame.{HasDistinctRows}
use Rattle.rs_field.proofs.code_lemmas.GivenRows.{shard_in_row-own, shard_in_row-coded, shard_in_row-other}
use Rattle.rs_rate.specs.rows.Marks.{how_many}
use Rattle.rs_rate.proofs.rows_lemmas.HowMany.{how_many-same, count_below-many, many_in_frame}
use Rattle.rs_rate.specs.passes.Sums.{ListsMarked}
use Rattle.rs_rate.proofs.rows_lemmas.DecoderRows.{enough-least}
use Rattle.reed_solomon_simd.specs.Base.{marked_state, MarksReceived, MarkBase}
use Rattle.rs_field.specs.code.DirectLaws.{shard_in_row}
use Rattle.reed_solomon_simd.proofs.BaseLemmas.{decoder_frame, in_row-marked}

-- A reference is lent exactly if there is a shard.
pub some-copied : (o : Option (Bor Shard)) → is_some (option_copied o) ≡ is_some o
some-copied o = search rules

-- The rows with a shard are as many as the received shards.
pub rows-count : (s : DecoderState)
    → HasDistinctRows (frame_at s.configuration) s.configuration.original_count s.configuration.recovery_count
    → how_many (row_count (frame_at s.configuration)) (λ x. is_some (shard_in_row s x))
    ≡ originals_given s + recovery_given s
rows-count s f =
    let k = s.configuration.original_count in let r = s.configuration.recovery_count in
    many_in_frame (frame_at s.configuration) k r f (λ x. is_some (shard_in_row s x))
    (λ p not_own not_coded.
    ap is_some (shard_in_row-other s p not_own not_coded))
    ∙ ap₂ (λ (a b : ℕ). a + b)
    (how_many-same k (λ i. is_some (shard_in_row s (original_row (frame_at s.configuration) i)))
    (λ i. is_some (s.originals i))
    (λ i inside. ap is_some (shard_in_row-own s i inside))
    ∙ count_below-many k s.originals)
    (how_many-same r (λ i. is_some (shard_in_row s (recovery_row (frame_at s.configuration) i)))
    (λ i. is_some (s.recovery i))
    (λ i inside. ap is_some (shard_in_row-coded s i f inside))
    ∙ count_below-many r s.recovery)

module _ (s : DecoderState) (is : IsDecoder default_rate s) where
  -- The shards of a base are as many as the marked rows, if each of them has a shard.
  pub base-count : (marks : List Bool)
      → ((x : ℕ) → is_marked marks x ≡ true → is_some (shard_in_row s x) ≡ true)
      → originals_given (marked_state marks s) + recovery_given (marked_state marks s)
      ≡ how_many (row_count (frame_at s.configuration)) (is_marked marks)
  base-count marks received =
      let b = marked_state marks s in
      sym (rows-count (marked_state marks s) (decoder_frame s is))
      ∙ how_many-same (row_count (frame_at s.configuration)) (λ x. is_some (shard_in_row b x)) (is_marked marks)
      (λ x inside. elim (cases_Bool (is_marked marks x)) [
        | inl there ↦ ap is_some (in_row-marked marks s x true there) ∙ received x there ∙ sym there
        | inr not ↦ ap is_some (in_row-marked marks s x false not) ∙ sym not
      ])

  -- There are at least as many marked rows as originals, if enough shards were received.
  pub enough-marked : (marks : List Bool) → MarksReceived s marks → enough_given s ≡ Ok tt
      → s.configuration.original_count ≤ how_many (length marks) (is_marked marks)
  enough-marked marks exact enough =
      omega (
        arith,
        enough-least s (sym enough),
        rows-count s (decoder_frame s is),
        ap (λ n. how_many n (is_marked marks)) exact.count,
        how_many-same (row_count (frame_at s.configuration)) (is_marked marks) (λ x. is_some (shard_in_row s x))
            (λ x inside. exact.exact x (omega (arith, inside, exact.count))),
      )

  -- The first marked rows, as many as there are originals, are a base.
  pub first-marks : (marks : List Bool) (n : ℕ) (rows : List ℕ) → MarksReceived s marks → n ≤ length marks
      → ListsMarked (take n marks) (length marks) rows → length rows ≡ s.configuration.original_count
      → MarkBase s (take n marks)
  first-marks marks n rows exact fit lists many =
      search (rules, get_or-take, get_or_past, length-take-le, cases_lt, true≢false, base-count)

  -- Up to the last one of them, the marked rows are those in which a shard was received.
  pub first-exact : (marks : List Bool) (n : ℕ) → MarksReceived s marks → n ≤ length marks
      → (x : ℕ) → x < length (take n marks) → is_marked (take n marks) x ≡ is_some (shard_in_row s x)
  first-exact marks n exact fit x inside = search (rules, get_or-take, length-take-le)
