-- A decoder: its state, and the outcomes of its calls.
use Rattle.std.specs.Prelude.{◌≡◌, ℕ, ◌+◌, ◌^◌, ◌<◌, ◌==◌, ◌&&◌, not, length, nat_le, nat_lt, if◌then◌else◌, List, Some}
use Rattle.std.specs.Prelude.{None, is_some, Result, Ok, Err, is_ok, MatchResult}
use Rattle.rs_field.specs.declared.code.error.Error.{Error}
use Rattle.rs_field.specs.declared.code.error.Error.TheVariants.{InvalidOriginalShardIndex, InvalidRecoveryShardIndex}
use Rattle.rs_field.specs.declared.code.error.Error.TheVariants.{DuplicateOriginalShardIndex}
use Rattle.rs_field.specs.declared.code.error.Error.TheVariants.{DuplicateRecoveryShardIndex, DifferentShardSize}
use Rattle.rs_field.specs.declared.code.error.Error.TheVariants.{NotEnoughShards, InconsistentShards}
use Rattle.rs_field.specs.code.Column.{Shard, shard_at}
use Rattle.rs_field.specs.code.Counts.{Rate}
use Rattle.rs_field.specs.code.Configuration.{Configuration, validation_outcome, bytes_of_rows}
use Rattle.rs_field.specs.code.Frame.{decoder_rows}
use Rattle.rs_field.specs.code.Given.{Shards, AreWithin, nothing, with_entry, count_below, Agrees, Consistent}

-- the state of a decoder: a configuration, and the shards that were added in the current round
pub record DecoderState : Type 0 where
  pub configuration : Configuration
  pub originals : Shards
  pub recovery : Shards

-- a state in which a decoder of this rate can be: the configuration is valid, the bytes of all rows fit a `usize`, and
-- each given shard has the size and an index below the count
pub record IsDecoder (rate : Rate) (s : DecoderState) : Type 0 where
  pub of_rate : s.configuration.rate ≡ rate
  pub valid : validation_outcome s.configuration ≡ Ok tt
  pub fits : bytes_of_rows
      (decoder_rows rate s.configuration.original_count s.configuration.recovery_count) s.configuration.shard_bytes < 2
      ^ 64
  pub originals_within : AreWithin s.configuration.original_count s.configuration.shard_bytes s.originals
  pub recovery_within : AreWithin s.configuration.recovery_count s.configuration.shard_bytes s.recovery

-- the state of a decoder to which no shard was added
abbrev pub fresh_decoder : Configuration → DecoderState
fresh_decoder c = record { configuration = c; originals = nothing; recovery = nothing }

-- the outcome of adding an original: first the index is checked, then whether the original was added before, and then
-- the size
abbrev pub with_original : DecoderState → ℕ → Shard → Result DecoderState Error
with_original s index shard =
    let c = s.configuration in
    if nat_le c.original_count index then Err (InvalidOriginalShardIndex c.original_count index)
    else if is_some (s.originals index) then Err (DuplicateOriginalShardIndex index)
    else if not (length shard == c.shard_bytes) then Err (DifferentShardSize c.shard_bytes (length shard))
    else Ok (record s { originals = with_entry s.originals index shard })

-- the outcome of adding a recovery shard: first the index is checked, then whether the recovery shard was added before,
-- and then the size
abbrev pub with_recovery : DecoderState → ℕ → Shard → Result DecoderState Error
with_recovery s index shard =
    let c = s.configuration in
    if nat_le c.recovery_count index then Err (InvalidRecoveryShardIndex c.recovery_count index)
    else if is_some (s.recovery index) then Err (DuplicateRecoveryShardIndex index)
    else if not (length shard == c.shard_bytes) then Err (DifferentShardSize c.shard_bytes (length shard))
    else Ok (record s { recovery = with_entry s.recovery index shard })

-- the number of originals that were added
abbrev pub originals_given : DecoderState → ℕ
originals_given s = count_below s.configuration.original_count s.originals

-- the number of recovery shards that were added
abbrev pub recovery_given : DecoderState → ℕ
recovery_given s = count_below s.configuration.recovery_count s.recovery

-- success if at least as many shards were added as there are originals, else the error
abbrev pub enough_given : DecoderState → Result (Unit {0}) Error
enough_given s =
    let k = s.configuration.original_count in
    if nat_lt (originals_given s + recovery_given s) k
    then Err (NotEnoughShards k (originals_given s) (recovery_given s)) else Ok tt

-- a message agrees with the shards that were added to a decoder
abbrev pub IsAgreeing : DecoderState → List Shard → Type 0
IsAgreeing s message = Agrees s.configuration s.originals s.recovery message

-- some message agrees with the shards that were added to a decoder
abbrev pub IsConsistent : DecoderState → Type 0
IsConsistent s = Consistent s.configuration s.originals s.recovery

-- the originals of a message that were not added to a decoder, by their indexes
unfoldable pub missing_of : DecoderState → List Shard → Shards
missing_of s message i =
    if nat_lt i s.configuration.original_count && not (is_some (s.originals i)) then Some (shard_at message i) else None

-- restored originals are the missing originals of the only message that agrees with the added shards
pub record Restored (s : DecoderState) (out : Shards) : Type 0 where
  pub message : List Shard
  pub agrees : IsAgreeing s message
  pub only : (other : List Shard) → IsAgreeing s other → other ≡ message
  pub missing : (i : ℕ) → out i ≡ missing_of s message i

-- the error if no message agrees with the added shards, which can only happen if more than k shards were added
pub record NoneAgrees (s : DecoderState) (e : Error) : Type 0 where
  pub refusal : e ≡ InconsistentShards (originals_given s) (recovery_given s)
  pub surplus : s.configuration.original_count < originals_given s + recovery_given s
  pub none : IsConsistent s → ⊥

-- what `decode` returns: `NotEnoughShards` for too few shards, `InconsistentShards` if no message agrees with them,
-- else the restored originals
abbrev pub DecodeAnswers : DecoderState → Result Shards Error → Type 0
DecodeAnswers s result =
    MatchResult (enough_given s) (λ _. MatchResult result (Restored s) (NoneAgrees s)) (λ e. result ≡ Err e)

-- the state after `decode`: the same state if too few shards were added, else a state without shards
abbrev pub after_decode : DecoderState → DecoderState
after_decode s = if is_ok (enough_given s) then fresh_decoder s.configuration else s
