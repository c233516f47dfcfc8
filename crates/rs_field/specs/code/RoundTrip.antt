-- The round trip: a decoder that gets enough of the shards of a message returns the lost originals, each as it was.
use Rattle.std.specs.Prelude.{◌≡◌, ℕ, ◌+◌, ◌<◌, ◌⊎◌, ◌&&◌, not, nat_lt, nat_eq, if◌then◌else◌, List, [], ◌∷◌, length}
use Rattle.std.specs.Prelude.{map}
use Rattle.std.specs.Prelude.{All}
use Rattle.std.specs.Prelude.{Some, None, Result, Ok, Err, IfOk, IfErr, IsOkAnd}
use Rattle.std.specs.List.{IsDistinct, list_any}
use Rattle.rs_field.specs.declared.code.error.Error.{Error}
use Rattle.rs_field.specs.declared.code.error.Error.TheVariants.{NotEnoughShards, OutOfMemory}
use Rattle.rs_field.specs.code.Column.{Shard, AreShards, shard_at}
use Rattle.rs_field.specs.code.Counts.{Rate}
use Rattle.rs_field.specs.code.Outcome.{answer_of}
use Rattle.rs_field.specs.code.Configuration.{Configuration, validation_outcome}
use Rattle.rs_field.specs.code.Code.{AreRecovery}
use Rattle.rs_field.specs.code.Given.{Shards, AreAmong}
use Rattle.rs_field.specs.code.Encoder.{EncoderState, IsEncoder, EncodeAnswers}
use Rattle.rs_field.specs.code.Decoder.{DecoderState, fresh_decoder, enough_given, missing_of, DecodeAnswers}
use Rattle.rs_field.specs.code.OneCall.{Items, default_of, with_both, OneEncodeAnswers, OneDecodeAnswers}

-- ---- decoders to which shards were added

-- what a decoder returns for shards of a known message: exactly the missing originals of this message if there are
-- enough shards, else `NotEnoughShards`
pub record BringsBack (s : DecoderState) (message : List Shard) (result : Result Shards Error) : Type 0 where
  pub answer : answer_of result ≡ enough_given s
  pub restored : IfOk result (λ out. (i : ℕ) → out i ≡ missing_of s message i)

-- at any rate, a decoder to which any originals and recovery shards of one message were added returns the missing
-- originals of this message
abbrev pub RestoresLost : Type 0
RestoresLost =
    (s : DecoderState) (message recovery : List Shard) (result : Result Shards Error)
    → AreShards s.configuration.original_count s.configuration.shard_bytes message
    → AreRecovery s.configuration message recovery
    → AreAmong s.originals message → AreAmong s.recovery recovery → DecodeAnswers s result → BringsBack s message result

-- a decoder to which any originals and recovery shards of one encoder were added returns the missing originals
abbrev pub RestoresEncoded : Type 0
RestoresEncoded =
    (rate : Rate) (encoder : EncoderState) (recovery : List Shard) (s : DecoderState) (result : Result Shards Error)
    → IsEncoder rate encoder → EncodeAnswers encoder (Ok recovery) → s.configuration ≡ encoder.configuration
    → AreAmong s.originals encoder.given → AreAmong s.recovery recovery → DecodeAnswers s result
    → BringsBack s encoder.given result

-- ---- decoders that are given lists

-- items are left of a list of shards if each item is a shard of the list with its index, and no index occurs twice
pub record AreLeft (shards : List Shard) (items : Items) : Type 0 where
  pub own : All (λ item. (item.0 < length shards) × (shard_at shards item.0 ≡ item.1)) items
  pub once : IsDistinct nat_eq (map (λ item. item.0) items)

-- success if at least k shards are left, else the error
abbrev pub enough_left : ℕ → Items → Items → Result (Unit {0}) Error
enough_left k originals recovery =
    if nat_lt (length originals + length recovery) k
    then Err (NotEnoughShards k (length originals) (length recovery)) else Ok tt

-- the lost shards of a list, by their indexes: those whose indexes no item has
unfoldable pub lost_of : List Shard → Items → Shards
lost_of shards items i =
    if nat_lt i (length shards) && not (list_any (λ item. nat_eq i item.0) items)
    then Some (shard_at shards i) else None

-- what a decoder returns for known originals: exactly the lost originals if there are enough shards, else
-- `NotEnoughShards`
pub record GivesBack (originals : List Shard) (kept received : Items) (result : Result Shards Error) : Type 0 where
  pub answer : answer_of result ≡ enough_left (length originals) kept received
  pub restored : IfOk result (λ out. (i : ℕ) → out i ≡ lost_of originals kept i)

-- at any rate, the shards that are left of a message can be added to a new decoder, which then returns the lost
-- originals
abbrev pub RestoresLeft : Type 0
RestoresLeft =
    (c : Configuration) (message recovery : List Shard) (kept received : Items)
    → AreShards c.original_count c.shard_bytes message → AreRecovery c message recovery → AreLeft message kept
    → AreLeft recovery received
    → IsOkAnd (with_both (fresh_decoder c) kept received)
    (λ s. (result : Result Shards Error) → DecodeAnswers s result → GivesBack message kept received result)

-- ---- one call

-- k originals of one valid size, and their recovery shards at the default rate
pub record AreCoded (k r : ℕ) (originals recovery : List Shard) : Type 0 where
  pub size : ℕ
  pub valid : validation_outcome (default_of k r size) ≡ Ok tt
  pub shards : AreShards k size originals
  pub coded : AreRecovery (default_of k r size) originals recovery

-- received shards belong to a message: each of them is the original or the recovery shard of the message that has its
-- index, and no index occurs twice
pub record BelongTo (k r : ℕ) (kept received : Items) (message : List Shard) : Type 0 where
  pub recovery : List Shard
  pub coded : AreCoded k r message recovery
  pub own : AreLeft message kept
  pub others : AreLeft recovery received

-- restored shards are the lost originals of the only message to which the received shards belong. Without a recovery
-- shard, nothing is restored
abbrev pub RestoresOnly : ℕ → ℕ → Items → Items → Shards → Type 0
RestoresOnly k r kept [] out = (i : ℕ) → out i ≡ None
RestoresOnly k r kept (first ∷ rest) out =
    (message : List Shard) × BelongTo k r kept (first ∷ rest) message
    × ((other : List Shard) → BelongTo k r kept (first ∷ rest) other → other ≡ message)
    × ((i : ℕ) → out i ≡ lost_of message kept i)

-- if one-call `encode` succeeds, it returns the recovery shards of all originals that it took
abbrev pub CodesInOneCall : Type 0
CodesInOneCall =
    (k r : ℕ) (originals recovery : List Shard) → All (All (λ b. b < 256)) originals
    → OneEncodeAnswers k r originals (Ok recovery) → AreCoded k r originals recovery

-- one-call `encode` of k shards of a valid size can only fail with `OutOfMemory`
abbrev pub EncodesInOneCall : Type 0
EncodesInOneCall =
    (k r size : ℕ) (originals : List Shard) (result : Result (List Shard) Error)
    → validation_outcome (default_of k r size) ≡ Ok tt
    → length originals ≡ k → All (λ shard. length shard ≡ size) originals → OneEncodeAnswers k r originals result
    → IfErr result (λ e. e ≡ OutOfMemory)

-- what one-call `decode` returns for known originals: exactly the lost originals if there are enough shards, else
-- `NotEnoughShards`, or `OutOfMemory` instead of these
pub record OneBringsBack (originals : List Shard) (kept received : Items) (result : Result Shards Error) : Type 0 where
  pub answer : (answer_of result ≡ enough_left (length originals) kept received) ⊎ (result ≡ Err OutOfMemory)
  pub restored : IfOk result (λ out. (i : ℕ) → out i ≡ lost_of originals kept i)

-- one-call `decode` of the originals and recovery shards that are left returns the lost originals
abbrev pub RestoresInOneCall : Type 0
RestoresInOneCall =
    (k r : ℕ) (originals recovery : List Shard) (kept received : Items) (result : Result Shards Error)
    → AreCoded k r originals recovery → AreLeft originals kept → AreLeft recovery received
    → OneDecodeAnswers k r kept received result → OneBringsBack originals kept received result

-- if one-call `decode` succeeds, its result is the lost originals of the only message to which the received shards
-- belong
abbrev pub RestoresOnlyMessage : Type 0
RestoresOnlyMessage =
    (k r : ℕ) (kept received : Items) (result : Result Shards Error)
    → OneDecodeAnswers k r kept received result → IfOk result (RestoresOnly k r kept received)
