-- An encoder: its state, and the outcomes of its calls.
use Rattle.std.specs.Prelude.{◌≡◌, ◌^◌, ◌<◌, ◌≤◌, All, List, [], ◌∷◌, ◌++◌, ◌==◌, not, length, nat_le, nat_lt}
use Rattle.std.specs.Prelude.{if◌then◌else◌, Result, Ok, Err, is_ok, IsOkAnd, MatchResult}
use Rattle.rs_field.specs.declared.code.error.Error.{Error}
use Rattle.rs_field.specs.declared.code.error.Error.TheVariants.{TooManyOriginalShards, TooFewOriginalShards}
use Rattle.rs_field.specs.declared.code.error.Error.TheVariants.{DifferentShardSize}
use Rattle.rs_field.specs.code.Column.{Shard, IsShard}
use Rattle.rs_field.specs.code.Counts.{Rate}
use Rattle.rs_field.specs.code.Configuration.{Configuration, validation_outcome, bytes_of_rows}
use Rattle.rs_field.specs.code.Frame.{encoder_rows}
use Rattle.rs_field.specs.code.Code.{AreRecovery}

-- the state of an encoder: a configuration, and the originals that were added in the current round
pub record EncoderState : Type 0 where
  pub configuration : Configuration
  pub given : List Shard

-- a state that an encoder of this rate can have: the configuration is valid, its rows have at most `usize::MAX` bytes,
-- and at most k originals of the size were added
pub record IsEncoder (rate : Rate) (s : EncoderState) : Type 0 where
  pub of_rate : s.configuration.rate ≡ rate
  pub valid : validation_outcome s.configuration ≡ Ok tt
  pub fits : bytes_of_rows
      (encoder_rows rate s.configuration.original_count s.configuration.recovery_count) s.configuration.shard_bytes < 2
      ^ 64
  pub no_more : length s.given ≤ s.configuration.original_count
  pub sized : All (IsShard s.configuration.shard_bytes) s.given

-- the state of an encoder to which no original was added
abbrev pub fresh_encoder : Configuration → EncoderState
fresh_encoder c = record { configuration = c; given = [] }

-- the outcome of adding an original: first it is checked whether all originals were added already, and then the size
abbrev pub with_shard : EncoderState → Shard → Result EncoderState Error
with_shard s shard =
    let c = s.configuration in
    if nat_le c.original_count (length s.given) then Err (TooManyOriginalShards c.original_count)
    else if not (length shard == c.shard_bytes) then Err (DifferentShardSize c.shard_bytes (length shard))
    else Ok (record s { given = s.given ++ shard ∷ [] })

-- the message of an encoder to which all originals were added, or the error if originals are missing
abbrev pub message_of : EncoderState → Result (List Shard) Error
message_of s =
    let k = s.configuration.original_count in
    if nat_lt (length s.given) k then Err (TooFewOriginalShards k (length s.given)) else Ok s.given

-- what `encode` returns: an error, or the recovery shards of the message
abbrev pub EncodeAnswers : EncoderState → Result (List Shard) Error → Type 0
EncodeAnswers s result =
    MatchResult (message_of s) (λ message. IsOkAnd result (AreRecovery s.configuration message)) (λ e. result ≡ Err e)

-- the state after `encode`: the same state if originals are missing, else a state without originals
abbrev pub after_encode : EncoderState → EncoderState
after_encode s = if is_ok (message_of s) then fresh_encoder s.configuration else s
