-- What sums of syndromes tell of a strip: whether the received shards are consistent, and the pieces of the missing
-- originals.
use Rattle.std.proofs.Common.{◌≡◌, ℕ, ◌<◌, false, List, length, subst}
use Rattle.std.proofs.Common.{sym, ap, ◌∙◌, inl, inr, arith}
use Rattle.std.specs.Prelude.{None, is_some}
use Rattle.std.specs.List.{between}
use Rattle.std.specs.Option.{option_map}
use Rattle.std.proofs.lemmas.Bool.{cases_Bool}
use Rattle.rs_field.specs.code.Column.{Shard}
use Rattle.rs_field.specs.code.Counts.{default_rate}
use Rattle.rs_field.specs.code.Decoder.{DecoderState, IsDecoder, IsConsistent}
use Rattle.rs_field.specs.code.Frame.{original_row, recovery_row, frame_at}
use Rattle.rs_field.specs.code.Pieces.{IsStrip}
use Rattle.rs_field.specs.code.PieceStates.{state_of_pieces}
use Rattle.rs_field.specs.rows.MarkedRows.{is_marked}
use Rattle.rs_field.proofs.code_lemmas.Columns.{shard_from_columns}
use Rattle.rs_field.proofs.code_lemmas.GivenRows.{AreGiven, given-either}
use Rattle.rs_rate.specs.declared.passes.sums.SumBase.{SumBase}
use Rattle.reed_solomon_simd.specs.declared.shard_index.ShardIndex.{ShardIndex}
use Rattle.reed_solomon_simd.specs.Base.{row_of, IsBaseSum, AgreesInRow}
use Rattle.reed_solomon_simd.specs.Reconstructed.{CanBeRebuilt, IsMissing}
use Rattle.reed_solomon_simd.specs.StripSums.{IsPieceOf}
use Rattle.reed_solomon_simd.specs.Syndromes.{AreSyndromes, IsSyndromeBase, IsSyndromeSum, AgreesAt}
use Rattle.reed_solomon_simd.proofs.BaseLemmas.{decoder_frame}
use Rattle.reed_solomon_simd.proofs.BaseSums.{given, consistent-agrees, agrees-consistent, sum-piece}
use Rattle.reed_solomon_simd.proofs.ConsistentStrips.{even-strip}
use Rattle.reed_solomon_simd.proofs.SyndromeMarks.{syndrome-pieces}
use Rattle.reed_solomon_simd.proofs.SyndromeSums.{original-sum, agrees-in_row, in_row-agrees}

module _ (s : DecoderState) (is : IsDecoder default_rate s) (start end : ℕ)
    (strip : IsStrip start end s.configuration.shard_bytes) (base : SumBase) (based : IsSyndromeBase s base)
    (shards : List Shard) (made : AreSyndromes (state_of_pieces start end s) shards) where
  abbrev here : IsSyndromeBase (state_of_pieces start end s) base
  here = syndrome-pieces start end s base based

  pieces-given : AreGiven (state_of_pieces start end s)
  pieces-given = given s is start end strip

  -- Shards with the same sums of syndromes as their words are equal.
  pub sums-one : (y : ℕ) (one other : Shard) → IsSyndromeSum (state_of_pieces start end s) base shards y one
      → IsSyndromeSum (state_of_pieces start end s) base shards y other → one ≡ other
  sums-one y one other first second =
      shard_from_columns first.is_shard second.is_shard (even-strip s is start end strip)
      (λ j inside. first.words j inside ∙ sym (second.words j inside))

  -- If no shard was received, nothing is compared.
  pub none-agrees : (i : ℕ) → (state_of_pieces start end s).recovery i ≡ None
      → AgreesAt (state_of_pieces start end s) base shards i
  none-agrees i none shard e not = absurd (let no : ⊥ = cc (none, e) in no)

  -- Up to the last row of the base, all received recovery shards are in it.
  pub early-agrees : (i : ℕ) → i < s.configuration.recovery_count
      → recovery_row (frame_at s.configuration) i < length base.marks.now
      → AgreesAt (state_of_pieces start end s) base shards i
  early-agrees i hi early shard e not =
      let there = sym (here.first i hi early) ∙ not in
      let some = ap is_some e in
      absurd (let no : ⊥ = cc (there, some) in no)

  -- If some message agrees with the strip, the syndromes outside of the base are the sums.
  pub consistent-syndrome : IsConsistent (state_of_pieces start end s) → (i : ℕ) → i < s.configuration.recovery_count
      → AgreesAt (state_of_pieces start end s) base shards i
  consistent-syndrome consistent i hi =
      in_row-agrees (state_of_pieces start end s) pieces-given base here shards made i hi
      (consistent-agrees s is start end strip based.all based.marked consistent
      (recovery_row (frame_at s.configuration) i))

  -- If all syndromes outside of the base are the sums, some message agrees with the strip.
  pub syndromes-consistent : ((i : ℕ) → i < s.configuration.recovery_count
      → AgreesAt (state_of_pieces start end s) base shards i)
      → IsConsistent (state_of_pieces start end s)
  syndromes-consistent each =
      agrees-consistent s is start end strip based.all based.marked (λ x inside shard there not.
      elim (given-either pieces-given x shard there) [
        | inl own ↦
            let at = own.2 in
            let marked = here.adds.own own.0 own.1 ∙ ap is_some own.3 in
            let unmarked = ap (is_marked based.all) (sym at) ∙ not in
            absurd (let no : ⊥ = cc (marked, unmarked) in no)
        | inr coded ↦
            let agreed : AgreesInRow based.all (state_of_pieces start end s) x =
            subst (λ (y : ℕ). AgreesInRow based.all (state_of_pieces start end s) y) (sym coded.2)
            (agrees-in_row (state_of_pieces start end s) pieces-given base here shards made coded.0 coded.1
            (each coded.0 coded.1)) in
            agreed shard there not
      ])

  -- The sum of syndromes is the direct sum for a missing original.
  missing-sum : (i : ℕ) → i < s.configuration.original_count → s.originals i ≡ None → (piece : Shard)
      → IsSyndromeSum (state_of_pieces start end s) base shards (original_row (frame_at s.configuration) i) piece
      → IsBaseSum based.all (state_of_pieces start end s) (original_row (frame_at s.configuration) i) piece
  missing-sum i hi none piece sum = record {
    is_shard = sum.is_shard;
    words = λ j hj. sum.words j hj
        ∙ original-sum (state_of_pieces start end s) pieces-given base here shards made i j hi
        (ap (option_map (λ x. between start end x)) none) hj;
  }

  -- The row of an original is not among those of the recovery shards of the base.
  original-outside : (i : ℕ) → i < s.configuration.original_count
      → is_marked base.marks.now (original_row (frame_at s.configuration) i) ≡ false
  original-outside i hi = elim (cases_Bool (is_marked base.marks.now (original_row (frame_at s.configuration) i))) [
    | inl marked ↦
        let (j, hj, at) = based.only (original_row (frame_at s.configuration) i) marked in
        let f = decoder_frame s is in
        absurd (elim f.order [
          | inl low ↦ let no : ⊥ = omega (arith, low.1, f.zeros.0, f.follow, hi, hj, at) in no
          | inr high ↦ let no : ⊥ = omega (arith, high.0, high.1, hi, hj, at) in no
        ])
    | inr not ↦ not
  ]

  -- The same for a missing original.
  pub missing-outside : (w : ShardIndex) → IsMissing s w
      → is_marked base.marks.now (row_of (frame_at s.configuration) w) ≡ false
  missing-outside w (i, hi, none, same) =
      subst (λ (v : ShardIndex). is_marked base.marks.now (row_of (frame_at s.configuration) v) ≡ false) (sym same)
      (original-outside i hi)

  -- The sum of syndromes is the piece of a missing original.
  pub syndrome-piece : (w : ShardIndex) (x : ℕ) (piece : Shard) → IsMissing s w
      → x ≡ row_of (frame_at s.configuration) w → IsSyndromeSum (state_of_pieces start end s) base shards x piece
      → IsPieceOf s start end w piece
  syndrome-piece w x piece (i, hi, none, same) at sum =
      let here : x ≡ original_row (frame_at s.configuration) i =
      at ∙ ap (λ (v : ShardIndex). row_of (frame_at s.configuration) v) same in
      sum-piece s is start end strip based.all based.marked w x piece (subst (CanBeRebuilt s) (sym same) (hi, none)) at
      (subst (λ (y : ℕ). IsBaseSum based.all (state_of_pieces start end s) y piece) (sym here)
      (missing-sum i hi none piece
      (subst (λ (y : ℕ). IsSyndromeSum (state_of_pieces start end s) base shards y piece) here sum)))
