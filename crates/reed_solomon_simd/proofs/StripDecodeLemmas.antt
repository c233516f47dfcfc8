-- A round of a decoder over a strip of each received shard.
use Rattle.std.proofs.Common.{rules, ◌≡◌, ℕ, suc, ◌+◌, ◌-◌, ◌<◌, ◌≤◌, [], ◌∷◌, length, drop, get_or, subst}
use Rattle.std.proofs.Common.{Result, Ok, Err, Some, sym, ap, ◌∙◌, arith}
use Rattle.std.specs.Prelude.{MatchResult, IfOk, IfErr}
use Rattle.std.proofs.lemmas.List.{length-drop, get_or-map, drop_more}
use Rattle.rs_field.specs.declared.code.error.Error.{Error}
use Rattle.rs_field.specs.code.Column.{Shard}
use Rattle.rs_field.specs.code.Configuration.{Configuration, configuration}
use Rattle.rs_field.specs.code.Counts.{default_rate}
use Rattle.rs_field.specs.code.Decoder.{DecoderState, IsDecoder, fresh_decoder, with_original, with_recovery}
use Rattle.rs_field.specs.code.Decoder.{Restored, NoneAgrees}
use Rattle.rs_field.specs.code.Given.{Shards, AreWithin}
use Rattle.rs_field.specs.code.PieceStates.{pieces_of, state_of_pieces, shards_listed}
use Rattle.rs_field.specs.code.OneCall.{Items}
use Rattle.rs_rate.proofs.rows_lemmas.FirstShards.{first, original-taken, recovery-taken}

-- The pieces of a strip of shards that are within bounds.
module _ (start end n count size : ℕ) (given : Shards) (within : AreWithin count size given) where
  -- A piece has the length of the strip.
  piece-sized : (piece : Shard) → start ≤ end → end ≤ size → pieces_of start end given n ≡ Some piece
      → length piece ≡ end - start
  piece-sized piece order inside found = search (rules, length-drop)

-- A decoder that has the pieces below n takes piece n.
module _ (start end n : ℕ) (x s now : DecoderState) (piece : Shard) (order : start ≤ end)
    (inside : end ≤ x.configuration.shard_bytes) (set_up : IsDecoder default_rate x)
    (configured : s.configuration ≡ (state_of_pieces start end x).configuration) where
  sized : (count : ℕ) (given : Shards) → AreWithin count x.configuration.shard_bytes given
      → pieces_of start end given n ≡ Some piece → length piece ≡ s.configuration.shard_bytes
  sized count given within found =
      piece-sized start end n count x.configuration.shard_bytes given within piece order inside found
      ∙ sym (ap (λ (d : Configuration). d.shard_bytes) configured)

  pub original-piece-taken : now ≡ record s { originals = first n (pieces_of start end x.originals) }
      → n < x.configuration.original_count → pieces_of start end x.originals n ≡ Some piece
      → with_original now n piece ≡ Ok (record s { originals = first (n + 1) (pieces_of start end x.originals) })
  original-piece-taken is below found =
      let count = ap (λ (d : Configuration). d.original_count) configured in
      ap (λ (t : DecoderState). with_original t n piece) is
      ∙ original-taken s n (pieces_of start end x.originals) piece found
      (sized x.configuration.original_count x.originals set_up.originals_within found) (omega (arith, count, below))

  pub recovery-piece-taken : now ≡ record s { recovery = first n (pieces_of start end x.recovery) }
      → n < x.configuration.recovery_count → pieces_of start end x.recovery n ≡ Some piece
      → with_recovery now n piece ≡ Ok (record s { recovery = first (n + 1) (pieces_of start end x.recovery) })
  recovery-piece-taken is below found =
      let count = ap (λ (d : Configuration). d.recovery_count) configured in
      ap (λ (t : DecoderState). with_recovery t n piece) is
      ∙ recovery-taken s n (pieces_of start end x.recovery) piece found
      (sized x.configuration.recovery_count x.recovery set_up.recovery_within found) (omega (arith, count, below))

-- ---- pieces are put into rooms, one after another

-- If some items remain after the first n, the next item is the first of the remaining ones.
pub left-next : (n : ℕ) (items rest : Items) (item : ℕ × Shard) → n ≤ length items → drop n items ≡ item ∷ rest
    → (n < length items) × (get_or (shards_listed items) n [] ≡ item.1) × (drop (n + 1) items ≡ rest)
left-next n items rest item most left =
    let long = length-drop n items in
    let some : length (drop n items) ≡ suc (length rest) = ap length left in
    let inside : n < length items = omega (arith, long, some, most) in
    let both : get_or items n item ∷ drop (n + 1) items ≡ item ∷ rest = sym (drop_more items n item inside) ∙ left in (
      inside,
      get_or-map (λ (x : ℕ × Shard). x.1) items n item [] inside
          ∙ (let same : get_or items n item ≡ item = cc in ap (λ (x : ℕ × Shard). x.1) same),
      (let same : drop (n + 1) items ≡ rest = cc in same),
    )

-- If no items remain after the first n, all n items were taken.
pub left-none : (n : ℕ) (items : Items) → n ≤ length items → drop n items ≡ [] → n ≡ length items
left-none n items most left = let long = length-drop n items in let none : length (drop n items) ≡ 0 = ap length left in
    omega (arith, long, none, most)

-- ---- a round

-- A fresh decoder with all pieces has the state of the pieces.
pub pieces-added : (start end : ℕ) (x : DecoderState) {zero one two : DecoderState}
    → zero ≡ fresh_decoder
    (configuration x.configuration.rate x.configuration.original_count x.configuration.recovery_count (end - start))
    → one ≡ record zero { originals = pieces_of start end x.originals }
    → two ≡ record one { recovery = pieces_of start end x.recovery }
    → two ≡ state_of_pieces start end x
pieces-added start end x fresh first second = search rules

-- A round that succeeds restores the missing pieces, and a round fails only if no message agrees with the pieces.
module _ (start end : ℕ) (x : DecoderState) {state : DecoderState} (is : state ≡ state_of_pieces start end x)
    (out : Shards) where
  pub round-restored : (result : Result ℕ Error) → MatchResult result (λ _. Restored state out) (NoneAgrees state)
      → IfOk result (λ _. Restored (state_of_pieces start end x) out)
  round-restored (Ok n) made = subst (λ (s : DecoderState). Restored s out) is made
  round-restored (Err e) none = tt

  pub round-refused : (result : Result ℕ Error) → MatchResult result (λ _. Restored state out) (NoneAgrees state)
      → IfErr result (NoneAgrees (state_of_pieces start end x))
  round-refused (Ok n) made = tt
  round-refused (Err e) none = subst (λ (s : DecoderState). NoneAgrees s e) is none
