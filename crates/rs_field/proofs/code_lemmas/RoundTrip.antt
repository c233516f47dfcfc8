-- A decoder that receives enough shards of a message restores the lost originals as they were.
use Rattle.std.proofs.Common.{rules, ◌≡◌, ◌≤◌, List, length, arith}
use Rattle.std.specs.Prelude.{Result, Ok}
use Rattle.rs_field.specs.declared.code.error.Error.{Error}
use Rattle.rs_field.specs.code.Column.{Shard, AreShards}
use Rattle.rs_field.specs.code.Counts.{Rate}
use Rattle.rs_field.specs.code.Code.{AreRecovery}
use Rattle.rs_field.specs.code.Given.{Shards, AreAmong}
use Rattle.rs_field.specs.code.Encoder.{EncoderState, IsEncoder, EncodeAnswers}
use Rattle.rs_field.specs.code.Decoder.{DecoderState, IsAgreeing, DecodeAnswers}
use Rattle.rs_field.specs.code.RoundTrip.{BringsBack}
use Rattle.std.proofs.lemmas.Grind.{common_steps}

-- If some message agrees with the shards of a decoder, the decoder returns the missing shards of this message.
pub brings_back : (s : DecoderState) (message : List Shard) (result : Result Shards Error) → IsAgreeing s message
    → DecodeAnswers s result → BringsBack s message result
brings_back s message result agrees answers = grind (arith, common_steps)

pub restores_lost : (s : DecoderState) (message recovery : List Shard) (result : Result Shards Error)
    → AreShards s.configuration.original_count s.configuration.shard_bytes message
    → AreRecovery s.configuration message recovery
    → AreAmong s.originals message → AreAmong s.recovery recovery → DecodeAnswers s result → BringsBack s message result
restores_lost s message recovery result are coded own among answers = search (rules, brings_back)

-- If an encoder returns recovery shards, it had all originals, and these are their recovery shards.
pub answered : (s : EncoderState) (recovery : List Shard) → EncodeAnswers s (Ok recovery)
    → (s.configuration.original_count ≤ length s.given) × AreRecovery s.configuration s.given recovery
answered s recovery h = grind (arith, common_steps)

pub restores_encoded : (rate : Rate) (encoder : EncoderState) (recovery : List Shard) (s : DecoderState)
    (result : Result Shards Error)
    → IsEncoder rate encoder → EncodeAnswers encoder (Ok recovery) → s.configuration ≡ encoder.configuration
    → AreAmong s.originals encoder.given → AreAmong s.recovery recovery → DecodeAnswers s result
    → BringsBack s encoder.given result
restores_encoded rate encoder recovery s result is encoded same own among answers = grind (arith, common_steps)
