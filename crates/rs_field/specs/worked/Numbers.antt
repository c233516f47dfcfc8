-- Worked examples: what the definitions say of small numbers and short lists.
use Rattle.std.specs.Prelude.{◌≡◌, ℕ, zero, suc, ◌+◌, ◌*◌, List, [], ◌∷◌, map, true, false, Ok, Err}
use Rattle.rs_field.specs.declared.code.error.Error.TheVariants.{UnsupportedShardCount, InvalidShardSize, OutOfMemory}
use Rattle.rs_field.specs.words.Field.{product}
use Rattle.rs_field.specs.words.Transform.{IsForward, IsBackward}
use Rattle.rs_field.specs.words.StepBounds.{transform_steps}
use Rattle.rs_field.specs.code.Column.{column}
use Rattle.rs_field.specs.code.Counts.{low_rate, high_rate, default_rate, next_power, supports, is_low}
use Rattle.rs_field.specs.code.Frame.{block_rows, encoder_rows, decoder_rows}
use Rattle.rs_field.specs.code.Configuration.{configuration, validation_outcome, start_outcome}
use Rattle.rs_field.specs.code.Bounds.{encode_steps_at, decode_steps_at}

-- products of small words
abbrev pub Products : Type 0
Products =
    (product 2 2 ≡ 3) × (product 2 3 ≡ 1) × (product 3 3 ≡ 2) × (product 2 4 ≡ 11)
    × (product 4 4 ≡ 6) × (product 2 6 ≡ 8) × (product 3 6 ≡ 14) × (product 5 4 ≡ 2)

-- the n numbers from a on
abbrev pub numbers : ℕ → ℕ → List ℕ
numbers a zero = []
numbers a (suc n) = a ∷ numbers (a + 1) n

-- columns of shards whose bytes are 0, 1, 2, ..: a tail alone, a chunk with a tail, and two chunks with a tail
abbrev pub ColumnsOfShards : Type 0
ColumnsOfShards =
    (map (λ j. column j (numbers 0 4)) (0 ∷ 1 ∷ []) ≡ (0 + 256 * 2) ∷ (1 + 256 * 3) ∷ [])
    × (map (λ j. column j (numbers 0 66)) (0 ∷ 31 ∷ 32 ∷ []) ≡ (0 + 256 * 32) ∷ (31 + 256 * 63) ∷ (64 + 256 * 65) ∷ [])
    × (map (λ j. column j (numbers 0 132)) (32 ∷ 63 ∷ 64 ∷ 65 ∷ [])
    ≡ (64 + 256 * 96) ∷ (95 + 256 * 127) ∷ (128 + 256 * 130) ∷ (129 + 256 * 131) ∷ [])

-- powers of counts
abbrev pub Powers : Type 0
Powers = map next_power (0 ∷ 1 ∷ 3 ∷ 4 ∷ 65536 ∷ 65537 ∷ 18446744073709551615 ∷ [])
    ≡ 1 ∷ 1 ∷ 4 ∷ 4 ∷ 65536 ∷ 131072 ∷ 18446744073709551616 ∷ []

-- counts that the default rate supports
abbrev pub Supported : Type 0
Supported =
    (supports default_rate 60000 4000 ≡ true) × (supports default_rate 4096 61440 ≡ true)
    × (supports default_rate 8192 57344 ≡ true)
    × (supports default_rate 16384 49152 ≡ true) × (supports default_rate 49152 16384 ≡ true)
    × (supports default_rate 57344 8192 ≡ true)
    × (supports default_rate 61440 4096 ≡ true) × (supports default_rate 32768 32768 ≡ true)

-- counts that the default rate does not support
abbrev pub Unsupported : Type 0
Unsupported =
    (supports default_rate 60000 5000 ≡ false) × (supports default_rate 4096 61441 ≡ false)
    × (supports default_rate 4097 61440 ≡ false)
    × (supports default_rate 61440 4097 ≡ false) × (supports default_rate 0 1 ≡ false)
    × (supports default_rate 1 0 ≡ false)
    × (supports default_rate 18446744073709551615 18446744073709551615 ≡ false)

-- counts that only one of the low and the high rate supports
abbrev pub OfOneRate : Type 0
OfOneRate =
    (supports high_rate 61440 4096 ≡ true) × (supports low_rate 61440 4096 ≡ false)
    × (supports high_rate 4096 61440 ≡ false) × (supports low_rate 4096 61440 ≡ true)
    × (supports high_rate 61440 4097 ≡ false) × (supports high_rate 61441 4096 ≡ false)

-- counts for which the default rate is the low rate, and counts for which it is the high rate
abbrev pub Choices : Type 0
Choices =
    (is_low default_rate 3 3 ≡ false) × (is_low default_rate 3 4 ≡ false) × (is_low default_rate 5 3 ≡ false)
    × (is_low default_rate 4 3 ≡ true) × (is_low default_rate 3 5 ≡ true)

-- a wrong size is an error, and the error for unsupported counts comes before it
abbrev pub Validated : Type 0
Validated =
    (validation_outcome (configuration low_rate 1 1 123) ≡ Err (InvalidShardSize 123))
    × (validation_outcome (configuration low_rate 1 1 0) ≡ Err (InvalidShardSize 0))
    × (validation_outcome (configuration high_rate 1 1 123) ≡ Err (InvalidShardSize 123))
    × (validation_outcome (configuration low_rate 61440 4096 64) ≡ Err (UnsupportedShardCount 61440 4096))
    × (validation_outcome (configuration low_rate 61440 4096 123) ≡ Err (UnsupportedShardCount 61440 4096))
    × (validation_outcome (configuration high_rate 61440 4096 64) ≡ Ok tt)

-- for the largest size, the bytes of one row exceed `usize::MAX`; for a size that is 62 bytes smaller, only the bytes
-- of two rows exceed it
abbrev pub TooManyBytes : Type 0
TooManyBytes =
    (start_outcome (encoder_rows default_rate 1 1) (configuration default_rate 1 1 18446744073709551614)
    ≡ Err OutOfMemory)
    × (start_outcome (decoder_rows default_rate 1 1) (configuration default_rate 1 1 18446744073709551614)
    ≡ Err OutOfMemory)
    × (start_outcome (encoder_rows default_rate 1 1) (configuration default_rate 1 1 18446744073709551552) ≡ Ok tt)
    × (start_outcome (decoder_rows default_rate 1 1) (configuration default_rate 1 1 18446744073709551552)
    ≡ Err OutOfMemory)

-- rows of encoders
abbrev pub EncoderRowsExamples : Type 0
EncoderRowsExamples =
    (encoder_rows low_rate 1 1 ≡ 1) × (encoder_rows low_rate 2 3 ≡ 4) × (encoder_rows low_rate 1024 4097 ≡ 5120)
    × (encoder_rows low_rate 1025 4097 ≡ 6144)
    × (encoder_rows high_rate 4097 1024 ≡ 5120) × (encoder_rows high_rate 4097 1025 ≡ 6144)

-- rows of a block
abbrev pub BlockRowsExamples : Type 0
BlockRowsExamples =
    (block_rows low_rate 1 1 ≡ 1) × (block_rows low_rate 2 3 ≡ 2) × (block_rows low_rate 1025 4097 ≡ 2048)
    × (block_rows high_rate 3 2 ≡ 2)
    × (block_rows high_rate 4097 1025 ≡ 2048) × (block_rows default_rate 4 3 ≡ 4) × (block_rows default_rate 5 3 ≡ 4)

-- rows of decoders
abbrev pub DecoderRowsExamples : Type 0
DecoderRowsExamples =
    (decoder_rows low_rate 4 4 ≡ 8) × (decoder_rows low_rate 1024 3072 ≡ 4096)
    × (decoder_rows low_rate 1025 2049 ≡ 8192) × (decoder_rows low_rate 32768 32768 ≡ 65536)
    × (decoder_rows high_rate 1 1 ≡ 2) × (decoder_rows high_rate 2049 1025 ≡ 8192)
    × (decoder_rows high_rate 32768 32768 ≡ 65536)

-- the words a, b, and zeros after them
abbrev pub pair : ℕ → ℕ → ℕ → ℕ
pair a b zero = a
pair a b (suc zero) = b
pair a b (suc (suc i)) = 0

-- at the shift 4, the forward transform of the words 2 and 4 is 4 and 0, and the backward transform of 4 and 0 is 2 and
-- 4
abbrev pub TransformOfTwo : Type 0
TransformOfTwo = IsForward 2 2 4 (pair 2 4) (pair 4 0) × IsBackward 2 4 (pair 4 0) (pair 2 4)

-- the row steps that transforms of these numbers of rows, and encodes and decodes for these counts, may count
abbrev pub StepBounds : Type 0
StepBounds =
    (map transform_steps (1 ∷ 2 ∷ 8 ∷ 65536 ∷ []) ≡ 0 ∷ 1 ∷ 12 ∷ 524288 ∷ [])
    × (encode_steps_at low_rate 1 1 ≡ 2) × (encode_steps_at low_rate 2 3 ≡ 11) × (encode_steps_at high_rate 3 2 ≡ 11)
    × (encode_steps_at low_rate 4 4 ≡ 16) × (encode_steps_at high_rate 4 4 ≡ 16)
    × (decode_steps_at low_rate 1 1 ≡ 11) × (decode_steps_at high_rate 1 1 ≡ 11) × (decode_steps_at low_rate 4 4 ≡ 68)
    × (decode_steps_at high_rate 4 4 ≡ 68)
    × (decode_steps_at low_rate 32768 32768 ≡ 1835008) × (decode_steps_at high_rate 32768 32768 ≡ 1835008)
