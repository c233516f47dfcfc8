-- Worked examples of the calls: the order of errors, and the state after a call.
use Rattle.std.specs.Prelude.{◌≡◌, ℕ, List, [], ◌∷◌, replicate, Result, Ok, Err}
use Rattle.rs_field.specs.declared.code.error.Error.{Error}
use Rattle.rs_field.specs.declared.code.error.Error.TheVariants.{DifferentShardSize, DuplicateOriginalShardIndex}
use Rattle.rs_field.specs.declared.code.error.Error.TheVariants.{DuplicateRecoveryShardIndex, InvalidOriginalShardIndex}
use Rattle.rs_field.specs.declared.code.error.Error.TheVariants.{InvalidRecoveryShardIndex, InvalidShardSize}
use Rattle.rs_field.specs.declared.code.error.Error.TheVariants.{NotEnoughShards, OutOfMemory, TooFewOriginalShards}
use Rattle.rs_field.specs.declared.code.error.Error.TheVariants.{TooManyOriginalShards, UnsupportedShardCount}
use Rattle.rs_field.specs.code.Column.{Shard}
use Rattle.rs_field.specs.code.Outcome.{result_and_then, answer_of, state_after}
use Rattle.rs_field.specs.code.Configuration.{validation_outcome, UpToMemory}
use Rattle.rs_field.specs.code.Given.{Shards, nothing, with_entry}
use Rattle.rs_field.specs.code.Encoder.{EncoderState, fresh_encoder, with_shard, message_of, after_encode}
use Rattle.rs_field.specs.code.Decoder.{fresh_decoder, with_original, with_recovery, enough_given, after_decode}
use Rattle.rs_field.specs.code.OneCall.{default_of, encoding_outcome, decoding_outcome, OneEncodeAnswers, OneDecodes}
use Rattle.rs_field.specs.code.OneCall.{OneDecodeAnswers}
use Rattle.rs_field.specs.worked.Codes.{state_of_two, state_of_surplus}

-- a shard of n zero bytes
abbrev pub zeros : ℕ → Shard
zeros n = replicate n 0

-- one-call `encode` checks in this order: the counts, whether there is an original, the size of the first original, too
-- many originals, another size, too few originals
abbrev pub EncodeOrder : Type 0
EncodeOrder =
    (encoding_outcome 0 1 [] ≡ Err (UnsupportedShardCount 0 1))
    × (encoding_outcome 0 1 (zeros 3 ∷ []) ≡ Err (UnsupportedShardCount 0 1))
    × (encoding_outcome 1 1 [] ≡ Err (TooFewOriginalShards 1 0))
    × (encoding_outcome 1 1 (zeros 3 ∷ zeros 2 ∷ []) ≡ Err (InvalidShardSize 3))
    × (encoding_outcome 1 1 (zeros 64 ∷ zeros 128 ∷ []) ≡ Err (TooManyOriginalShards 1))
    × (encoding_outcome 2 1 (zeros 64 ∷ zeros 128 ∷ []) ≡ Err (DifferentShardSize 64 128))
    × (result_and_then message_of (encoding_outcome 2 1 (zeros 64 ∷ [])) ≡ Err (TooFewOriginalShards 2 1))

-- one-call `decode` with recovery shards checks in this order: the size of the first recovery shard, the originals, the
-- recovery shards, too few shards
abbrev pub DecodeOrder : Type 0
DecodeOrder =
    (decoding_outcome 1 1 ((0, zeros 64) ∷ []) (0, []) [] ≡ Err (InvalidShardSize 0))
    × (decoding_outcome 0 1 [] (0, []) [] ≡ Err (UnsupportedShardCount 0 1))
    × (decoding_outcome 1 1 ((0, zeros 64) ∷ []) (1, zeros 64) [] ≡ Err (InvalidRecoveryShardIndex 1 1))
    × (decoding_outcome 2 1 ((0, zeros 64) ∷ (0, zeros 128) ∷ []) (0, zeros 64) []
    ≡ Err (DuplicateOriginalShardIndex 0))
    × (decoding_outcome 2 1 ((0, zeros 64) ∷ (1, zeros 128) ∷ []) (5, zeros 64) [] ≡ Err (DifferentShardSize 64 128))
    × (decoding_outcome 2 1 ((2, zeros 128) ∷ []) (0, zeros 64) [] ≡ Err (InvalidOriginalShardIndex 2 2))
    × (decoding_outcome 2 2 [] (1, zeros 64) ((1, zeros 128) ∷ []) ≡ Err (DuplicateRecoveryShardIndex 1))
    × (result_and_then enough_given (decoding_outcome 2 1 [] (0, zeros 64) []) ≡ Err (NotEnoughShards 2 0 1))

-- one-call `decode` without recovery shards checks in this order: the index of each original and whether it was given
-- before, and then the number of originals
abbrev pub NoRecoveryOrder : Type 0
NoRecoveryOrder =
    (result : Result Shards Error)
    → (OneDecodes 2 1 ((0, zeros 64) ∷ (0, zeros 64) ∷ []) [] result → result ≡ Err (DuplicateOriginalShardIndex 0))
    × (OneDecodes 1 1 ((5, zeros 64) ∷ []) [] result → result ≡ Err (InvalidOriginalShardIndex 1 5))
    × (OneDecodes 1 1 [] [] result → result ≡ Err (NotEnoughShards 1 0 0))
    × (OneDecodes 1 1 ((0, zeros 64) ∷ []) [] result → result ≡ Ok nothing)

-- an encoder of two originals and three recovery shards that was given these shards
abbrev pub encoder_with : List Shard → EncoderState
encoder_with given = record { configuration = default_of 2 3 2; given = given }

-- an add that fails does not change the encoder, an added shard is the last one, and after `encode` the encoder has no
-- originals
abbrev pub EncoderRound : Type 0
EncoderRound =
    (validation_outcome (default_of 2 3 3) ≡ Err (InvalidShardSize 3))
    × (state_after (encoder_with (zeros 2 ∷ [])) (with_shard (encoder_with (zeros 2 ∷ [])) [])
    ≡ encoder_with (zeros 2 ∷ []))
    × (with_shard (encoder_with (zeros 2 ∷ [])) (1 ∷ 0 ∷ []) ≡ Ok (encoder_with (zeros 2 ∷ (1 ∷ 0 ∷ []) ∷ [])))
    × (message_of (encoder_with (zeros 2 ∷ (1 ∷ 0 ∷ []) ∷ [])) ≡ Ok (zeros 2 ∷ (1 ∷ 0 ∷ []) ∷ []))
    × (after_encode (encoder_with (zeros 2 ∷ (1 ∷ 0 ∷ []) ∷ [])) ≡ fresh_encoder (default_of 2 3 2))
    × (message_of (fresh_encoder (default_of 2 3 2)) ≡ Err (TooFewOriginalShards 2 0))

-- two recovery shards are enough for two originals, one is not enough, and after `decode` the decoder has no shards,
-- also if no message agrees
abbrev pub DecoderRound : Type 0
DecoderRound =
    (enough_given (record
    { configuration = default_of 2 3 2; originals = nothing; recovery = with_entry nothing 2 (zeros 2) })
    ≡ Err (NotEnoughShards 2 0 1))
    × (enough_given state_of_two ≡ Ok tt) × (after_decode state_of_two ≡ fresh_decoder (default_of 2 3 2))
    × (after_decode (state_of_surplus (7 ∷ 8 ∷ [])) ≡ fresh_decoder (default_of 1 2 2))
    × (enough_given (fresh_decoder (default_of 2 3 2)) ≡ Err (NotEnoughShards 2 0 0))

-- the largest index fails like every other index that is too large
abbrev pub LargestIndex : Type 0
LargestIndex =
    (answer_of (with_original (fresh_decoder (default_of 1 1 2)) 18446744073709551615 (zeros 2))
    ≡ Err (InvalidOriginalShardIndex 1 18446744073709551615))
    × (answer_of (with_recovery (fresh_decoder (default_of 1 1 2)) 18446744073709551615 (zeros 2))
    ≡ Err (InvalidRecoveryShardIndex 1 18446744073709551615))

-- `OutOfMemory` can replace a success or a later error of a one-call function, but never its first errors
abbrev pub MemoryOrder : Type 0
MemoryOrder =
    (UpToMemory (validation_outcome (default_of 2 3 3)) (Err OutOfMemory) → ⊥)
    × UpToMemory (validation_outcome (default_of 2 3 2)) (Err OutOfMemory)
    × (OneEncodeAnswers 0 1 [] (Err OutOfMemory) → ⊥) × (OneEncodeAnswers 1 1 [] (Err OutOfMemory) → ⊥)
    × (OneEncodeAnswers 1 1 (zeros 3 ∷ []) (Err OutOfMemory) → ⊥)
    × OneEncodeAnswers 1 1 (zeros 64 ∷ zeros 128 ∷ []) (Err OutOfMemory)
    × (OneDecodeAnswers 0 1 [] [] (Err OutOfMemory) → ⊥)
    × (OneDecodeAnswers 1 1 ((0, zeros 64) ∷ []) ((0, []) ∷ []) (Err OutOfMemory) → ⊥)
    × OneDecodeAnswers 1 1 ((5, zeros 64) ∷ []) [] (Err OutOfMemory)
