-- A strip of a message of which all originals were received: its pieces are consistent exactly if the encoded recovery
-- pieces are the received ones.
use Rattle.std.proofs.Common.{◌≡◌, ℕ, ◌-◌, ◌<◌, List, [], length, drop, All}
use Rattle.std.proofs.Common.{Some, None, inl, inr, refl, sym, ap, ◌∙◌, subst, arith}
use Rattle.std.specs.Prelude.{Option, unwrap_or}
use Rattle.std.specs.List.{between}
use Rattle.std.specs.Option.{option_map}
use Rattle.std.proofs.lemmas.Bool.{cases_lt}
use Rattle.std.proofs.lemmas.List.{length-drop, length-take-le}
use Rattle.std.proofs.lemmas.List.Elements.{All-take, All-drop}
use Rattle.rs_field.specs.code.Code.{AreRecovery}
use Rattle.rs_field.specs.code.Column.{Shard, IsShard, AreShards}
use Rattle.rs_field.specs.code.Configuration.{Configuration}
use Rattle.rs_field.specs.code.Counts.{default_rate}
use Rattle.rs_field.specs.code.Decoder.{DecoderState, IsDecoder, IsConsistent, originals_given}
use Rattle.rs_field.specs.code.Given.{Agrees, AreAmong, nothing}
use Rattle.rs_field.specs.code.Pieces.{IsStrip, ArePut}
use Rattle.rs_field.specs.code.PieceStates.{pieces_of, state_of_pieces}
use Rattle.rs_field.proofs.code_lemmas.Agreement.{one_message}
use Rattle.rs_field.proofs.code_lemmas.Entries.{all_some}
use Rattle.rs_field.proofs.code_lemmas.Given.{some_of, nothing_among}
use Rattle.rs_field.proofs.code_lemmas.MissingShards.{count-pieces}
use Rattle.rs_field.proofs.code_lemmas.Unique.{recovery_unique}
use Rattle.rs_field.proofs.words_lemmas.UpTo.{length-up_to, get-up_to, all-up_to}
use Rattle.rs_rate.proofs.rows_lemmas.StateLemmas.{valid-supported}
use Rattle.reed_solomon_simd.specs.Reconstructed.{AreReconstructed}
use Rattle.reed_solomon_simd.specs.Rounds.{first_of, own_piece, own_message}
use Rattle.reed_solomon_simd.proofs.ConsistentStrips.{even-strip, few-originals}

-- A piece of a shard is a shard.
shard-cut : {start end size : ℕ} {shard : Shard} → IsStrip start end size → IsShard size shard
    → IsShard (end - start) (between start end shard)
shard-cut {start} {end} {size} {shard} strip is =
    let left = length-drop start shard in
    record {
      length_is = length-take-le (end - start) (drop start shard) (omega (arith, left, is.length_is, strip.inside));
      bytes = All-take (λ b. b < 256) (end - start) (drop start shard) (All-drop (λ b. b < 256) start shard is.bytes);
    }

module _ (s : DecoderState) (is : IsDecoder default_rate s)
    (all : originals_given s ≡ s.configuration.original_count) (start end : ℕ)
    (strip : IsStrip start end s.configuration.shard_bytes) where
  -- The pieces of the received originals.
  abbrev pub received_strip : List Shard
  received_strip = own_message (state_of_pieces start end s) nothing

  -- Each original has a piece, which has the length of the strip.
  pub received-piece : (i : ℕ) → i < s.configuration.original_count
      → (piece : Shard) × (pieces_of start end s.originals i ≡ Some piece) × IsShard (end - start) piece
  received-piece i inside =
      let found = some_of (s.originals i)
      (all_some s.configuration.original_count s.originals (omega (arith, all)) i inside) in (
        between start end found.0,
        ap (option_map (λ x. between start end x)) found.1,
        shard-cut strip (is.originals_within.sized i found.0 found.1),
      )

  pub received-are : AreShards s.configuration.original_count (end - start) received_strip
  received-are =
      record {
        length_is = length-up_to s.configuration.original_count _;
        each = all-up_to (IsShard (end - start)) s.configuration.original_count
            (λ i. unwrap_or (own_piece (state_of_pieces start end s) nothing i) []) (λ i inside.
            let (piece, found, sized) = received-piece i inside in
            subst (λ (o : Option Shard). IsShard (end - start) (unwrap_or (first_of o None) [])) (sym found) sized);
      }

  -- Each piece has the length of the strip.
  pub received-sized : All (λ x. length x ≡ end - start) received_strip
  received-sized i d h = (received-are.each i d h).length_is

  received-among : AreAmong (pieces_of start end s.originals) received_strip
  received-among i piece found = elim (cases_lt i s.configuration.original_count) [
    | inl inside ↦
        get-up_to s.configuration.original_count
        (λ i. unwrap_or (own_piece (state_of_pieces start end s) nothing i) []) i [] inside
        ∙ ap (λ (o : Option Shard). unwrap_or (first_of o None) []) found
    | inr past ↦
        let none = ap (option_map (λ x. between start end x)) (is.originals_within.none_past i past) in
        absurd (let no : ⊥ = cc in no)
  ]

  module _ (made : List Shard) (coded : AreRecovery (state_of_pieces start end s).configuration received_strip made)
    where
      -- If the received recovery pieces are the encoded ones, the pieces are consistent.
      pub compared-consistent : AreAmong (pieces_of start end s.recovery) made
          → IsConsistent (state_of_pieces start end s)
      compared-consistent among =
          (received_strip, record { shards = received-are; own = received-among; coded = (made, coded, among) })

      -- If the pieces are consistent, the received recovery pieces are the encoded ones.
      pub consistent-compared : IsConsistent (state_of_pieces start end s)
          → AreAmong (pieces_of start end s.recovery) made
      consistent-compared (message, agrees) =
          let c : Configuration = (state_of_pieces start end s).configuration in
          let n = count-pieces start end s.configuration.original_count s.originals in
          let one : Agrees (state_of_pieces start end s).configuration (pieces_of start end s.originals) nothing
          message =
          record {
            shards = agrees.shards;
            own = agrees.own;
            coded = (agrees.coded.0, agrees.coded.1, nothing_among agrees.coded.0);
          } in
          let other : Agrees (state_of_pieces start end s).configuration (pieces_of start end s.originals) nothing
          received_strip =
          record { shards = received-are; own = received-among; coded = (made, coded, nothing_among made) } in
          let same = one_message
          (valid-supported s.configuration is.valid) (even-strip s is start end strip) (omega (arith, n, all)) one
          other in
          let recovered : AreRecovery (state_of_pieces start end s).configuration received_strip agrees.coded.0 =
          subst (λ (m : List Shard). AreRecovery (state_of_pieces start end s).configuration m agrees.coded.0) same
          agrees.coded.1 in
          subst (AreAmong (pieces_of start end s.recovery))
          (recovery_unique (few-originals s is) (even-strip s is start end strip)
          recovered coded) agrees.coded.2

  -- If the pieces are consistent, making no shard of them succeeds.
  pub made-nothing : IsConsistent (state_of_pieces start end s) → AreReconstructed (state_of_pieces start end s) [] []
  made-nothing (message, agrees) =
      let own = count-pieces start end s.configuration.original_count s.originals in
      record {
        message = message;
        agrees = agrees;
        only = λ other also. one_message (valid-supported s.configuration is.valid) (even-strip s is start end strip)
            (omega (arith, own, all)) also agrees;
        named = refl;
      }

-- If there are no rooms, nothing is put into them.
pub put-nothing : (start end : ℕ) (rooms : List Shard) → length rooms ≡ 0 → ArePut start end [] rooms rooms
put-nothing start end rooms none = (refl, λ i inside. absurd (let no : ⊥ = omega (arith, none, inside) in no))
