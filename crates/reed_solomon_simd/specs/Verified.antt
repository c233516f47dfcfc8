-- What `verify` returns for lists of received shards.
use Rattle.std.specs.Prelude.{◌≡◌, ◌⊎◌, ℕ, [], ◌∷◌, ◌++◌, length, Option, Some, None, Result, Err, MatchResult}
use Rattle.rs_field.specs.declared.code.error.Error.{Error}
use Rattle.rs_field.specs.declared.code.error.Error.TheVariants.{NotEnoughShards}
use Rattle.rs_field.specs.code.Configuration.{validation_outcome, start_outcome}
use Rattle.rs_field.specs.code.Counts.{default_rate}
use Rattle.rs_field.specs.code.Decoder.{DecoderState, fresh_decoder, enough_given, IsConsistent, NoneAgrees}
use Rattle.rs_field.specs.code.Frame.{decoder_rows}
use Rattle.rs_field.specs.code.OneCall.{Items, default_of, counts_outcome, with_both, LacksMemory}
use Rattle.rs_field.specs.code.Outcome.{result_and_then}

-- the size of the first of some shards, if there is one
abbrev pub first_size : Items → Option ℕ
first_size [] = None
first_size (item ∷ _) = Some (length item.1)

-- the size of the received shards: that of the first recovery shard, or if there is none, that of the first original
abbrev pub received_size : Items → Items → Option ℕ
received_size originals recovery = first_size (recovery ++ originals)

-- the error if no shard was received: the counts are checked first
abbrev pub nothing_received : {T : Type 0} → ℕ → ℕ → Result T Error
nothing_received k r = result_and_then (λ _. Err (NotEnoughShards k 0 0)) (counts_outcome k r)

-- the outcome of the checks before the first allocation: first the counts, then whether a shard was received, and then
-- the size of the received shards
abbrev pub receiving_opening : ℕ → ℕ → Option ℕ → Result (Unit {0}) Error
receiving_opening k r None = nothing_received k r
receiving_opening k r (Some size) = validation_outcome (default_of k r size)

-- the decoder after the originals and then the recovery shards of a size were added, or the first error
abbrev pub receiving_outcome : ℕ → ℕ → Option ℕ → Items → Items → Result DecoderState Error
receiving_outcome k r None originals recovery = nothing_received k r
receiving_outcome k r (Some size) originals recovery =
    let c = default_of k r size in
    result_and_then (λ _. with_both (fresh_decoder c) originals recovery)
    (start_outcome (decoder_rows default_rate k r) c)

-- the result of collecting received shards: the decoder to which they were added, or the first error, or `OutOfMemory`
-- if the checks before the first allocation find no error
abbrev pub IsReceiving : ℕ → ℕ → Items → Items → Result DecoderState Error → Type 0
IsReceiving k r originals recovery result =
    (result ≡ receiving_outcome k r (received_size originals recovery) originals recovery)
    ⊎ LacksMemory (receiving_opening k r (received_size originals recovery)) result

-- what a decoder with received shards says of them: `NotEnoughShards` for too few shards, a success if some message
-- agrees with them, and `InconsistentShards` if no message does
abbrev pub VerifyAnswers : DecoderState → Result (Unit {0}) Error → Type 0
VerifyAnswers s result =
    MatchResult (enough_given s) (λ _. MatchResult result (λ _. IsConsistent s) (NoneAgrees s)) (λ e. result ≡ Err e)

-- the relation of received shards to the result of `verify`: what the decoder to which they were added says, the first
-- error, or `OutOfMemory`
abbrev pub OneVerifies : ℕ → ℕ → Items → Items → Result (Unit {0}) Error → Type 0
OneVerifies k r originals recovery result =
    MatchResult (receiving_outcome k r (received_size originals recovery) originals recovery)
    (λ s. VerifyAnswers s result) (λ e. result ≡ Err e)
    ⊎ LacksMemory (receiving_opening k r (received_size originals recovery)) result
