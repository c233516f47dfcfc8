-- Direct sums over a base of received shards: the shards in rows, the base, and the words of the sums.
use Rattle.std.proofs.Common.{rules, ◌≡◌, ℕ, ◌+◌, ◌<◌, Bool, true, cond, List, length, sym, ap}
use Rattle.std.proofs.Common.{ap₂, ◌∙◌, inl, inr, arith}
use Rattle.std.proofs.lemmas.Grind.{common_steps}
use Rattle.std.specs.Prelude.{None, is_some, slice_index}
use Rattle.std.specs.List.{between}
use Rattle.std.specs.Option.{option_map}
use Rattle.rs_field.specs.code.Counts.{default_rate}
use Rattle.rs_field.specs.code.Decoder.{DecoderState, IsDecoder}
use Rattle.rs_field.specs.code.DirectLaws.{entry_in, given_at, word_of, word_at, locator_at, summed_word, shard_in_row}
use Rattle.rs_field.specs.code.Frame.{frame_of, row_count, frame_at}
use Rattle.rs_field.specs.declared.code.frame.Frame.{Frame}
use Rattle.rs_field.specs.code.Given.{Shards}
use Rattle.rs_field.specs.code.PieceStates.{pieces_of, state_of_pieces}
use Rattle.rs_field.specs.rows.MarkedRows.{is_marked}
use Rattle.rs_field.specs.words.DirectSum.{direct_sum, direct_term}
use Rattle.rs_field.specs.words.Field.{product, power}
use Rattle.rs_field.specs.words.Transform.{sum_below}
use Rattle.rs_field.proofs.code_lemmas.Frame.{HasDistinctRows}
use Rattle.rs_field.proofs.code_lemmas.PieceStates.{is_some-map}
use Rattle.rs_field.proofs.code_lemmas.RateFrames.{distinct_rows}
use Rattle.rs_field.proofs.code_lemmas.MissingShards.{count-pieces}
use Rattle.rs_field.proofs.words_lemmas.Combination.{sum_below-same}
use Rattle.rs_rate.specs.declared.passes.sums.SumBase.{SumBase}
use Rattle.rs_rate.specs.passes.BaseSum.{base_sum as sum_of}
use Rattle.rs_rate.specs.passes.Decoding.{IsLocatorOf}
use Rattle.rs_rate.specs.passes.Sums.{AreMarksOf}
use Rattle.rs_rate.proofs.rows_lemmas.StateLemmas.{valid-supported}
use Rattle.rs_rate.proofs.passes_lemmas.SumLemmas.{factor_at}
use Rattle.std.proofs.lemmas.Bool.{cases_Bool}
use Rattle.reed_solomon_simd.specs.Base.{marked_part, marked_state, MarkBase, IsBase, base_sum}

-- ---- the shards in rows

-- The frame of a decoder.
pub decoder_frame : (s : DecoderState) → IsDecoder default_rate s
    → HasDistinctRows (frame_at s.configuration) s.configuration.original_count s.configuration.recovery_count
decoder_frame s is =
    distinct_rows s.configuration.rate s.configuration.original_count s.configuration.recovery_count
    (valid-supported s.configuration is.valid)

-- The frame of counts is that of a decoder of these counts.
pub frame_same : {frame : Frame} {k r : ℕ} (s : DecoderState) → IsDecoder default_rate s
    → frame ≡ frame_of default_rate k r → k ≡ s.configuration.original_count → r ≡ s.configuration.recovery_count
    → frame ≡ frame_at s.configuration
frame_same s is framed own other =
    framed ∙ ap₂ (frame_of default_rate) own other
    ∙ ap (λ rate. frame_of rate s.configuration.original_count s.configuration.recovery_count) (sym is.of_rate)

-- The piece in a row is a piece of the shard in the row.
pub in_row-pieces : (start end : ℕ) (s : DecoderState) (x : ℕ)
    → shard_in_row (state_of_pieces start end s) x ≡ option_map (λ shard. between start end shard) (shard_in_row s x)
unfolding given_at entry_in
in_row-pieces start end s x = search rules

-- There is a piece in a row exactly if there is a shard.
pub some-pieces : (start end : ℕ) (s : DecoderState) (x : ℕ)
    → is_some (shard_in_row (state_of_pieces start end s) x) ≡ is_some (shard_in_row s x)
some-pieces start end s x = ap is_some (in_row-pieces start end s x) ∙ is_some-map start end (shard_in_row s x)

-- ---- the base

-- The marked part of a map has the entries whose rows are marked.
pub marked_part-at : (marks : List Bool) (from i : ℕ) (given : Shards) (b : Bool) → is_marked marks (from + i) ≡ b
    → marked_part marks from given i ≡ cond b (given i) None
unfolding marked_part
marked_part-at marks from i given b is = ap (λ (c : Bool). cond c (given i) None) is

-- The base has the shards of the marked rows in these rows.
pub in_row-marked : (marks : List Bool) (s : DecoderState) (x : ℕ) (b : Bool) → is_marked marks x ≡ b
    → shard_in_row (marked_state marks s) x ≡ cond b (shard_in_row s x) None
unfolding given_at entry_in marked_part
in_row-marked marks s x b is = grind (arith, common_steps)

-- Exactly the rows of the shards of the base are marked.
pub base_marks : (marks : List Bool) (s : DecoderState) → MarkBase s marks
    → AreMarksOf (frame_at s.configuration) s.configuration.original_count s.configuration.recovery_count
    (marked_state marks s).originals (marked_state marks s).recovery marks
base_marks marks s base x inside = search (rules, in_row-marked)

-- The marked part of pieces are the pieces of the marked part.
marked-pieces : (start end : ℕ) (marks : List Bool) (from : ℕ) (given : Shards)
    → marked_part marks from (pieces_of start end given) ≡ pieces_of start end (marked_part marks from given)
marked-pieces start end marks from given = search (rules, marked_part-at)

-- Marks of a base mark a base of the pieces in a strip.
pub base-pieces : (start end : ℕ) (marks : List Bool) (s : DecoderState) → MarkBase s marks
    → MarkBase (state_of_pieces start end s) marks
base-pieces start end marks s base = search (rules, some-pieces, marked-pieces, count-pieces)

-- ---- the sums

-- The direct sum over the words of the shards in rows is that over the shards of marked rows, if these are a base.
pub sum-over : (s : DecoderState) (marks : List Bool) (locator : List ℕ) (j y : ℕ) → MarkBase s marks
    → IsLocatorOf (frame_at s.configuration) marks locator → y < row_count (frame_at s.configuration)
    → direct_sum (length locator) (is_marked marks) (λ z. slice_index locator z) (λ x. word_of j (shard_in_row s x)) y
    ≡ base_sum marks s j y
unfolding summed_word direct_sum word_at
sum-over s marks locator j y marked located inside =
    let frame = frame_at s.configuration in
    let k = s.configuration.original_count in
    let r = s.configuration.recovery_count in
    let b = marked_state marks s in
    let exact = base_marks marks s marked in
    ap (λ n. sum_below n (direct_term (is_marked marks) (λ z. slice_index locator z)
    (λ x. word_of j (shard_in_row s x)) y)) located.entries
    ∙ sum_below-same (row_count (frame_at s.configuration)) _
    (direct_term (λ x. is_some (shard_in_row (marked_state marks s) x))
    (locator_at frame k r b.originals b.recovery) (word_at frame k r b.originals b.recovery j) y)
    (λ x hx. terms (is_marked marks x) (is_some (shard_in_row (marked_state marks s) x)) _ _ (exact x hx)
    (λ there. ap₂ (λ w l. product w (power l)) (sym (ap (word_of j) (in_row-marked marks s x true there)))
    (factor_at frame k r b.originals b.recovery marks exact locator located x y hx inside)))
  where
    terms : (a b : Bool) (m n : ℕ) → a ≡ b → (a ≡ true → m ≡ n) → cond a m 0 ≡ cond b n 0
    terms a b m n same equal = elim (cases_Bool a) [
      | inl is ↦ ap (λ c. cond c m 0) is ∙ equal is ∙ sym (ap (λ c. cond c n 0) (sym same ∙ is))
      | inr not ↦ ap (λ c. cond c m 0) not ∙ sym (ap (λ c. cond c n 0) (sym same ∙ not))
    ]

-- The direct sum over the words of the shards in rows is that over the base.
pub sum-same : (s : DecoderState) (base : SumBase) (j y : ℕ) → IsBase s base
    → y < row_count (frame_at s.configuration)
    → sum_of base (λ x. word_of j (shard_in_row s x)) y ≡ base_sum base.marks.now s j y
sum-same s base j y is inside = sum-over s base.marks.now base.locator.now j y is.marked is.located inside
