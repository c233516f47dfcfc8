-- What `decode_into` and `reconstruct_into` leave in rooms for shards of one message.
use Rattle.std.proofs.Common.{◌≡◌, ℕ, List, length, map, Result, Ok, Err, MatchResult, ◌∙◌, subst}
use Rattle.std.specs.Prelude.{OnOk, OnErr}
use Rattle.std.proofs.Math.Path.{fun_ext}
use Rattle.reed_solomon_simd.specs.declared.Error.{Error}
use Rattle.reed_solomon_simd.specs.declared.ReconstructError.{ReconstructError}
use Rattle.reed_solomon_simd.specs.declared.RoomError.{RoomError}
use Rattle.reed_solomon_simd.specs.declared.RoomError.TheVariants.{Refused}
use Rattle.reed_solomon_simd.specs.declared.ShardIndex.{ShardIndex}
use Rattle.reed_solomon_simd.specs.Column.{Shard}
use Rattle.reed_solomon_simd.specs.Given.{Shards, Lists}
use Rattle.reed_solomon_simd.specs.Into.{rooms_fit, Fills, DecodesInto}
use Rattle.reed_solomon_simd.specs.OneCall.{Items}
use Rattle.reed_solomon_simd.specs.Reconstructed.{OneReconstructs, rooms_outcome, WritesShards, ReconstructsInto}
use Rattle.reed_solomon_simd.specs.RoundTrip.{AreCoded, AreLeft, OneBringsBack}
use Rattle.reed_solomon_simd.specs.ShardNames.{shard_named}
use Rattle.reed_solomon_simd.proofs.OneRoundTrip.{restores_in_one_call}
use Rattle.rs_examples.specs.Losing.{FillsWithLost}
use Rattle.rs_examples.proofs.ReconstructLaws.{wanted_come_back}

module _ {k r : ℕ} {originals recovery : List Shard} {kept received : Items}
    (was : AreCoded k r originals recovery) (left : AreLeft originals kept) (got : AreLeft recovery received)
    (before after : List (List ℕ)) where
  -- If `decode_into` succeeds, the rooms hold the lost originals.
  pub lost_in_rooms : (answer : Result (Unit {0}) RoomError) → DecodesInto k r kept received before after answer
      → OnOk answer (FillsWithLost originals kept after)
  lost_in_rooms (Err e) into = tt
  lost_in_rooms (Ok u) (decoded, answers, fills) =
      by_decode decoded (restores_in_one_call k r originals recovery kept received decoded was left got answers) fills
    where
      filled : (shards : List Shard) (o : Result (Unit {0}) RoomError)
          → MatchResult o (λ _. ◌≡◌ {A = Result (Unit {0}) RoomError} (Ok u) (Ok tt) × (after ≡ shards))
          (λ e. ◌≡◌ {A = Result (Unit {0}) RoomError} (Ok u) (Err e) × (after ≡ before))
          → after ≡ shards
      filled shards (Ok v) both = both.1
      filled shards (Err e) both = let no = both.0 in absurd (let none : ⊥ = cc in none)

      by_decode : (decoded : Result Shards Error) → OneBringsBack originals kept received decoded
          → MatchResult decoded
          (λ restored. (items : Items) × Lists restored items × Fills (map (λ item. item.1) items) before after (Ok u))
          (λ e. ◌≡◌ {A = Result (Unit {0}) RoomError} (Ok u) (Err (Refused e)) × (after ≡ before))
          → FillsWithLost originals kept after
      by_decode (Ok restored) back (items, listing, fills) = (
        items,
        subst (λ (out : Shards). Lists out items) (fun_ext back.restored) listing,
        filled (map (λ item. item.1) items) (rooms_fit (map (λ item. item.1) items) before) fills,
      )
      by_decode (Err e) back both = let no = both.0 in absurd (let none : ⊥ = cc in none)

  -- If `reconstruct_into` succeeds, the rooms hold the wanted shards.
  pub wanted_in_rooms : (wanted : List ShardIndex) (answer : Result (Unit {0}) ReconstructError)
      → ReconstructsInto k r kept received wanted before after answer
      → OnOk answer (after ≡ map (shard_named originals recovery) wanted)
  wanted_in_rooms wanted (Err e) into = tt
  wanted_in_rooms wanted (Ok u) (made, makes, writes) = by_made made makes writes
    where
      by_made : (made : Result (List Shard) ReconstructError)
          → OneReconstructs k r kept received wanted (rooms_outcome (length wanted) before) made
          → WritesShards made before after (Ok u)
          → after ≡ map (shard_named originals recovery) wanted
      by_made (Ok shards) makes both =
          both.1 ∙ wanted_come_back wanted was left got (rooms_outcome (length wanted) before) shards makes
      by_made (Err e) makes both = let no = both.0 in absurd (let none : ⊥ = cc in none)

-- ---- calls that fail

module _ (k r : ℕ) (kept received : Items) (before after : List (List ℕ)) where
  -- If `decode_into` fails, the rooms are unchanged.
  pub decode_leaves : (answer : Result (Unit {0}) RoomError) → DecodesInto k r kept received before after answer
      → OnErr answer (after ≡ before)
  decode_leaves (Ok u) into = tt
  decode_leaves (Err error) (decoded, answers, fills) = by_decode decoded fills
    where
      by_rooms : (shards : List Shard) (o : Result (Unit {0}) RoomError)
          → MatchResult o (λ _. ◌≡◌ {A = Result (Unit {0}) RoomError} (Err error) (Ok tt) × (after ≡ shards))
          (λ e. ◌≡◌ {A = Result (Unit {0}) RoomError} (Err error) (Err e) × (after ≡ before))
          → after ≡ before
      by_rooms shards (Ok u) both = let no = both.0 in absurd (let none : ⊥ = cc in none)
      by_rooms shards (Err e) both = both.1

      by_decode : (decoded : Result Shards Error)
          → MatchResult decoded
          (λ restored. (items : Items) × Lists restored items × Fills (map (λ item. item.1) items) before after
          (Err error))
          (λ e. ◌≡◌ {A = Result (Unit {0}) RoomError} (Err error) (Err (Refused e)) × (after ≡ before))
          → after ≡ before
      by_decode (Ok restored) (items, listing, fills) =
          by_rooms (map (λ item. item.1) items) (rooms_fit (map (λ item. item.1) items) before) fills
      by_decode (Err e) both = both.1

  -- If `reconstruct_into` fails, the rooms are unchanged.
  pub reconstruct_leaves : (wanted : List ShardIndex) (answer : Result (Unit {0}) ReconstructError)
      → ReconstructsInto k r kept received wanted before after answer → OnErr answer (after ≡ before)
  reconstruct_leaves wanted (Ok u) into = tt
  reconstruct_leaves wanted (Err error) (made, makes, writes) = by_made made writes
    where
      by_made : (made : Result (List Shard) ReconstructError) → WritesShards made before after (Err error)
          → after ≡ before
      by_made (Ok shards) both = let no = both.0 in absurd (let none : ⊥ = cc in none)
      by_made (Err e) both = both.1
