-- What direct sums over a base of received shards tell of a strip: whether the shards are consistent, and the pieces of
-- the shards that were not received.
use Rattle.std.proofs.Common.{rules, ◌≡◌, ℕ, ◌+◌, ◌-◌, ◌/◌, ◌<◌, Bool, true, false, List, sym, ap, ◌∙◌, inl}
use Rattle.std.proofs.Common.{inr, arith, subst}
use Rattle.std.proofs.lemmas.Grind.{common_steps}
use Rattle.std.specs.Prelude.{Some, None, is_some, ◌↔◌}
use Rattle.std.specs.List.{between}
use Rattle.std.specs.Option.{option_map}
use Rattle.std.proofs.lemmas.Bool.{cases_Bool}
use Rattle.rs_field.specs.code.Column.{Shard, IsShard, column, shard_at}
use Rattle.rs_field.specs.code.Counts.{default_rate, supports}
use Rattle.rs_field.specs.code.Decoder.{DecoderState, IsDecoder, IsAgreeing, IsConsistent, originals_given}
use Rattle.rs_field.specs.code.Decoder.{recovery_given}
use Rattle.rs_field.specs.code.DirectLaws.{IsPartOf, entry_in, given_at, summed_word, shard_in_row}
use Rattle.rs_field.specs.code.Frame.{row_count, original_row, recovery_row, frame_at}
use Rattle.rs_field.specs.code.Given.{Shards, AreWithin}
use Rattle.rs_field.specs.code.Pieces.{IsStrip}
use Rattle.rs_field.specs.code.PieceStates.{pieces_of, state_of_pieces}
use Rattle.rs_field.specs.rows.MarkedRows.{is_marked}
use Rattle.rs_field.proofs.code_lemmas.DirectColumn.{direct_original, direct_recovery}
use Rattle.rs_field.proofs.code_lemmas.GivenRows.{AreGiven, given_within, given-either, given-below}
use Rattle.rs_field.proofs.code_lemmas.BaseShards.{AreSums, all_located, base_given, agrees_with_part}
use Rattle.rs_field.proofs.code_lemmas.BaseShards.{consistent_by_sums}
use Rattle.rs_field.proofs.code_lemmas.Columns.{shard_from_columns, shard_in}
use Rattle.rs_rate.proofs.rows_lemmas.StateLemmas.{valid-supported}
use Rattle.reed_solomon_simd.specs.declared.shard_index.ShardIndex.{ShardIndex}
use Rattle.reed_solomon_simd.specs.declared.shard_index.ShardIndex.TheVariants.{Original, Recovery}
use Rattle.reed_solomon_simd.specs.Base.{row_of, marked_part, marked_state, MarkBase, base_sum, IsBaseSum, AgreesInRow}
use Rattle.reed_solomon_simd.specs.Reconstructed.{CanBeRebuilt}
use Rattle.reed_solomon_simd.specs.ShardNames.{shard_named}
use Rattle.reed_solomon_simd.specs.StripSums.{IsPieceOf}
use Rattle.reed_solomon_simd.proofs.BaseLemmas.{decoder_frame, marked_part-at, base_marks, base-pieces}
use Rattle.reed_solomon_simd.proofs.ConsistentStrips.{even-strip}

-- ---- pieces

-- A piece of a shard is a shard of the size of the piece.
piece-cut : (start end size : ℕ) (shard : Shard) → IsStrip start end size → IsShard size shard
    → IsShard (end - start) (between start end shard)
piece-cut start end size shard strip is = grind (arith, common_steps)

-- The pieces of given shards have the size of a piece, and the indexes of the shards.
pub within-pieces : (start end n size : ℕ) (given : Shards) → IsStrip start end size → AreWithin n size given
    → AreWithin n (end - start) (pieces_of start end given)
within-pieces start end n size given strip within = search (rules, piece-cut)

-- ---- the marked part of a map

pub part-of : (marks : List Bool) (from : ℕ) (given : Shards) → IsPartOf (marked_part marks from given) given
part-of marks from given = search (rules, marked_part-at)

-- A shard that is not given is not in the marked part.
pub part-missing : (marks : List Bool) (from i : ℕ) (given : Shards) → given i ≡ None
    → is_some (marked_part marks from given i) ≡ false
part-missing marks from i given none = search (rules, marked_part-at)

module _ (s : DecoderState) (is : IsDecoder default_rate s) (start end : ℕ)
    (strip : IsStrip start end s.configuration.shard_bytes) where
  supported : supports s.configuration.rate s.configuration.original_count s.configuration.recovery_count ≡ true
  supported = valid-supported s.configuration is.valid

  own_within : AreWithin s.configuration.original_count (end - start) (state_of_pieces start end s).originals
  own_within =
      within-pieces start end s.configuration.original_count s.configuration.shard_bytes s.originals strip
      is.originals_within

  coded_within : AreWithin s.configuration.recovery_count (end - start) (state_of_pieces start end s).recovery
  coded_within =
      within-pieces start end s.configuration.recovery_count s.configuration.shard_bytes s.recovery strip
      is.recovery_within

  pub given : AreGiven (state_of_pieces start end s)
  given =
      let t = state_of_pieces start end s in
      given_within t.configuration t.originals t.recovery supported own_within coded_within

  -- A piece in a row has the size of a piece.
  pub in_row-sized : (x : ℕ) (piece : Shard) → shard_in_row (state_of_pieces start end s) x ≡ Some piece
      → IsShard (end - start) piece
  in_row-sized x piece there = elim (given-either given x piece there) [
    | inl own ↦ own_within.sized own.0 piece own.3
    | inr coded ↦ coded_within.sized coded.0 piece coded.3
  ]

  module _ (marks : List Bool) (base : MarkBase s marks) where
    -- The pieces of the base.
    abbrev chosen : DecoderState
    chosen = marked_state marks (state_of_pieces start end s)

    chosen_enough : originals_given chosen + recovery_given chosen ≡ s.configuration.original_count
    chosen_enough = (base-pieces start end marks s base).enough

    own_part : IsPartOf chosen.originals (state_of_pieces start end s).originals
    own_part = part-of marks (frame_at s.configuration).originals_from (state_of_pieces start end s).originals

    coded_part : IsPartOf chosen.recovery (state_of_pieces start end s).recovery
    coded_part = part-of marks (frame_at s.configuration).recovery_from (state_of_pieces start end s).recovery

    -- Some message agrees with the strip exactly if the pieces outside of the base are the direct sums.
    decided : IsConsistent (state_of_pieces start end s)
        ↔ AreSums (state_of_pieces start end s) (λ x. is_some (shard_in_row chosen x))
        (base_sum marks (state_of_pieces start end s))
    unfolding summed_word
    decided =
        consistent_by_sums given own_part coded_part (all_located chosen) (even-strip s is start end strip)
        chosen_enough

    -- A row with a piece is marked exactly if the piece is in the base.
    marked-chosen : (x : ℕ) (piece : Shard) → shard_in_row (state_of_pieces start end s) x ≡ Some piece
        → is_marked marks x ≡ is_some (shard_in_row chosen x)
    marked-chosen x piece there =
        base_marks marks (state_of_pieces start end s) (base-pieces start end marks s base) x
        (given-below given x piece there)

    -- If some message agrees with the strip, the pieces outside of the base are the direct sums.
    pub consistent-agrees : IsConsistent (state_of_pieces start end s) → (x : ℕ)
        → AgreesInRow marks (state_of_pieces start end s) x
    consistent-agrees consistent x piece there not = search (rules, in_row-sized, decided, marked-chosen)

    -- If all pieces outside of the base are the direct sums, some message agrees with the strip.
    pub agrees-consistent : ((x : ℕ) → x < row_count (frame_at s.configuration)
        → AgreesInRow marks (state_of_pieces start end s) x)
        → IsConsistent (state_of_pieces start end s)
    agrees-consistent each = decided.1 (λ x j piece there none inside.
        let below = given-below given x piece there in
        let sum = each x below piece there (marked-chosen x piece there ∙ none) in
        sym (sum.words j inside))

    -- A message that agrees with the strip agrees with the base.
    agrees_with_base : (message : List Shard) (agrees : IsAgreeing (state_of_pieces start end s) message)
        → (part : IsAgreeing chosen message) × (part.coded.0 ≡ agrees.coded.0)
    agrees_with_base message agrees =
        agrees_with_part own_part coded_part agrees

    -- Each missing word of a message that agrees with the strip is the direct sum.
    summed-words : (message : List Shard) (agrees : IsAgreeing (state_of_pieces start end s) message) (i j : ℕ)
        → j < (end - start) / 2
        → (i < s.configuration.original_count → is_some (chosen.originals i) ≡ false
        → base_sum marks (state_of_pieces start end s) j (original_row (frame_at s.configuration) i)
        ≡ column j (shard_at message i))
        × (i < s.configuration.recovery_count → is_some (chosen.recovery i) ≡ false
        → base_sum marks (state_of_pieces start end s) j (recovery_row (frame_at s.configuration) i)
        ≡ column j (shard_at agrees.coded.0 i))
    unfolding summed_word
    summed-words message agrees i j inside =
        let part = agrees_with_base message agrees in
        let g = base_given given own_part coded_part in
        let enough = chosen_enough in (
          direct_original g (all_located chosen) (omega (arith, enough)) part.0 i j inside,
          λ below none. direct_recovery g (all_located chosen) (omega (arith, enough)) part.0 i j inside below none
              ∙ ap (λ (all : List Shard). column j (shard_at all i)) part.1,
        )

    -- No piece was received in the row of a shard that can be rebuilt.
    pub wanted-missing : (w : ShardIndex) → CanBeRebuilt s w
        → shard_in_row (state_of_pieces start end s) (row_of (frame_at s.configuration) w) ≡ None
    unfolding given_at entry_in
    wanted-missing (Original i) can = search rules
    wanted-missing (Recovery i) can = search (rules, decoder_frame)

    -- The direct sum is the piece of a wanted shard.
    wanted-piece : (message : List Shard) (agrees : IsAgreeing (state_of_pieces start end s) message)
        (w : ShardIndex) (piece : Shard) → CanBeRebuilt s w
        → IsBaseSum marks (state_of_pieces start end s) (row_of (frame_at s.configuration) w) piece
        → piece ≡ shard_named message agrees.coded.0 w
    wanted-piece message agrees (Original i) piece can sum =
        let t = state_of_pieces start end s in
        shard_from_columns sum.is_shard
        (shard_in agrees.shards i can.0)
        (even-strip s is start end strip)
        (λ j inside. sum.words j inside ∙ (summed-words message agrees i j inside).0 can.0
        (part-missing marks (frame_at s.configuration).originals_from i t.originals
        (ap (option_map (λ x. between start end x)) can.1)))
    wanted-piece message agrees (Recovery i) piece can sum =
        let t = state_of_pieces start end s in
        shard_from_columns sum.is_shard
        (shard_in agrees.coded.1.shards i can.0)
        (even-strip s is start end strip)
        (λ j inside. sum.words j inside ∙ (summed-words message agrees i j inside).1 can.0
        (part-missing marks (frame_at s.configuration).recovery_from i t.recovery
        (ap (option_map (λ x. between start end x)) can.1)))

    -- Shards with the direct sums as their words are equal.
    pub sums-same : (x : ℕ) (one other : Shard) → IsBaseSum marks (state_of_pieces start end s) x one
        → IsBaseSum marks (state_of_pieces start end s) x other → one ≡ other
    sums-same x one other first second =
        shard_from_columns first.is_shard second.is_shard (even-strip s is start end strip)
        (λ j inside. first.words j inside ∙ sym (second.words j inside))

    -- A row outside of the base has no mark, if no shard was received in it.
    pub missing-unmarked : (x : ℕ) → shard_in_row (state_of_pieces start end s) x ≡ None → is_marked marks x ≡ false
    missing-unmarked x none = elim (cases_Bool (is_marked marks x)) [
      | inl is_there ↦
          let here = base-pieces start end marks s base in
          let some = here.received x is_there in
          let not = ap is_some none in
          absurd (let no : ⊥ = cc (some, not) in no)
      | inr not ↦ not
    ]

    -- The direct sum for the row of a wanted shard is its piece.
    pub sum-piece : (w : ShardIndex) (x : ℕ) (piece : Shard) → CanBeRebuilt s w
        → x ≡ row_of (frame_at s.configuration) w → IsBaseSum marks (state_of_pieces start end s) x piece
        → IsPieceOf s start end w piece
    sum-piece w x piece can at sum =
        let here : IsBaseSum marks (state_of_pieces start end s) (row_of (frame_at s.configuration) w) piece =
        subst (λ (y : ℕ). IsBaseSum marks (state_of_pieces start end s) y piece) at sum in
        record { long = sum.is_shard.length_is; is = λ message agrees. wanted-piece message agrees w piece can here }

-- The row of a shard that can be rebuilt is a row of a decoder.
pub row-inside : (s : DecoderState) → IsDecoder default_rate s → (w : ShardIndex) → CanBeRebuilt s w
    → row_of (frame_at s.configuration) w < row_count (frame_at s.configuration)
row-inside s is (Original i) can = let f = decoder_frame s is in omega (arith, f.originals, can.0)
row-inside s is (Recovery i) can = let f = decoder_frame s is in omega (arith, f.recovery, can.0)
