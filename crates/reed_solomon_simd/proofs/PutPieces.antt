-- Putting pieces into rooms, one after another.
use Rattle.std.proofs.Common.{◌≡◌, ◌≢◌, ℕ, ◌+◌, ◌-◌, ◌<◌, ◌≤◌, List, [], ◌++◌, length, take, drop, get_or, refl, sym}
use Rattle.std.proofs.Common.{ap, ap₂, ◌∙◌, inl, inr, arith}
use Rattle.std.proofs.lemmas.Bool.{cases_eq, cases_lt}
use Rattle.std.proofs.lemmas.List.{get_or-map}
use Rattle.rs_field.specs.code.Column.{Shard}
use Rattle.rs_field.specs.code.Decoder.{DecoderState, IsAgreeing, IsConsistent}
use Rattle.rs_field.specs.code.Pieces.{IsStrip, ArePut}
use Rattle.rs_field.specs.code.PieceStates.{state_of_pieces}
use Rattle.rs_field.proofs.code_lemmas.Agreement.{one_message}
use Rattle.rs_field.proofs.code_lemmas.MissingShards.{count-pieces}
use Rattle.rs_rate.proofs.rows_lemmas.DecoderRows.{enough-least}
use Rattle.rs_rate.proofs.rows_lemmas.StateLemmas.{valid-supported}
use Rattle.reed_solomon_simd.specs.declared.shard_index.ShardIndex.{ShardIndex}
use Rattle.reed_solomon_simd.specs.declared.shard_index.ShardIndex.TheVariants.{Original}
use Rattle.reed_solomon_simd.specs.Making.{CanMake}
use Rattle.reed_solomon_simd.specs.Reconstructed.{AreReconstructed}
use Rattle.reed_solomon_simd.specs.ShardNames.{shard_named}
use Rattle.reed_solomon_simd.specs.StripSums.{IsPieceOf, PutBelow, ArePutFrom}
use Rattle.reed_solomon_simd.proofs.ConsistentStrips.{even-strip}
use Rattle.reed_solomon_simd.proofs.RebuiltStrips.{named_shards}

-- The next piece is written into its room.
pub put-next : (start size a n : ℕ) (pieces : ℕ → Shard) (old now new : List Shard) (piece : Shard) → a ≤ n
    → ArePutFrom a n start size pieces old now
    → get_or new n [] ≡ take start (get_or now n []) ++ (piece ++ drop (start + length piece) (get_or now n []))
    → ((i : ℕ) → i ≢ n → get_or new i [] ≡ get_or now i [])
    → piece ≡ pieces (n - a) → length piece ≡ size
    → ArePutFrom a (n + 1) start size pieces old new
put-next start size a n pieces old now new piece order held here others is long = record {
  put = λ i from h. elim (cases_eq i n) [
    | inl same ↦
        ap (λ (m : ℕ). get_or new m []) same
        ∙ here
        ∙ ap₂ (λ (room : Shard) (m : ℕ). take start room ++ (piece ++ drop (start + m) room))
        (held.others n (inr (omega arith))) long
        ∙ ap (λ (p : Shard). take start (get_or old n []) ++ (p ++ drop (start + size) (get_or old n []))) is
        ∙ ap (λ (m : ℕ). take start (get_or old m []) ++ (pieces (m - a) ++ drop (start + size) (get_or old m [])))
        (sym same)
    | inr other ↦ others i other ∙ held.put i from (omega (arith, h, other))
  ];
  others = λ i apart. elim apart [
    | inl before ↦
        others i (λ same. let e : i ≡ n = same in omega (arith, before, order, e)) ∙ held.others i (inl before)
    | inr after ↦
        others i (λ same. let e : i ≡ n = same in omega (arith, after, e)) ∙ held.others i (inr (omega (arith, after)))
  ];
}

-- Pieces that were written into the next rooms are put there.
pub put-group : (start size end a b : ℕ) (made : ℕ → Shard) (pieces old now new : List Shard) → a ≤ b
    → start + size ≡ end → PutBelow start end pieces old now a → ArePutFrom a b start size made now new
    → ((i : ℕ) → a ≤ i → i < b → made (i - a) ≡ get_or pieces i [])
    → PutBelow start end pieces old new b
put-group start size end a b made pieces old now new order ends held from are = record {
  put = λ i h. elim (cases_lt i a) [
    | inl before ↦ from.others i (inl before) ∙ held.put i before
    | inr past ↦
        from.put i past h
        ∙ ap₂ (λ (room : Shard) (m : ℕ). take start room ++ (made (i - a) ++ drop m room)) (held.others i past) ends
        ∙ ap (λ (p : Shard). take start (get_or old i []) ++ (p ++ drop end (get_or old i []))) (are i past h)
  ];
  others = λ i h. from.others i (inr h) ∙ held.others i (omega (arith, order, h));
}

module _ (s : DecoderState) (start end : ℕ) (strip : IsStrip start end s.configuration.shard_bytes)
    (wanted : List ShardIndex) where
  -- The piece of a wanted shard has the place of its name.
  pub piece-named : (n : ℕ) (piece : Shard) → n < length wanted
      → IsPieceOf s start end (get_or wanted n (Original 0)) piece
      → (message : List Shard) (agrees : IsAgreeing (state_of_pieces start end s) message)
      → piece ≡ get_or (named_shards message agrees.coded.0 wanted) n []
  piece-named n piece inside of message agrees =
      of.is message agrees ∙ sym (get_or-map (shard_named message agrees.coded.0) wanted n (Original 0) [] inside)

  -- If each room holds the piece of its wanted shard, the wanted shards of the strip are in the rooms.
  pub all-put : CanMake s wanted → IsConsistent (state_of_pieces start end s) → (old new : List Shard)
      → length new ≡ length old → length old ≡ length wanted
      → ((message : List Shard) (agrees : IsAgreeing (state_of_pieces start end s) message)
      → PutBelow start end (named_shards message agrees.coded.0 wanted) old new (length wanted))
      → (made : List Shard) × AreReconstructed (state_of_pieces start end s) wanted made × ArePut start end made old new
  all-put can (message, agrees) old new number rooms put =
      let own = count-pieces start end s.configuration.original_count s.originals in
      let coded = count-pieces start end s.configuration.recovery_count s.recovery in
      let enough = enough-least s (sym can.enough) in (
        named_shards message agrees.coded.0 wanted,
        record {
          message = message;
          agrees = agrees;
          only = λ other also. one_message (valid-supported s.configuration can.set_up.valid)
              (even-strip s can.set_up start end strip) (omega (arith, own, coded, enough)) also agrees;
          named = refl;
        },
        (number, λ i h. (put message agrees).put i (omega (arith, h, rooms))),
      )
