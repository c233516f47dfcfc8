-- Worked examples of the code: messages with their recovery shards, and given shards with the messages that agree.
use Rattle.std.specs.Prelude.{◌≡◌, ℕ, ◌+◌, ◌*◌, ◌++◌, List, [], ◌∷◌, map, length, replicate, Ok, Err}
use Rattle.rs_field.specs.declared.code.error.Error.TheVariants.{InconsistentShards}
use Rattle.rs_field.specs.code.Column.{Shard, columns}
use Rattle.rs_field.specs.code.Counts.{Rate, default_rate}
use Rattle.rs_field.specs.code.Configuration.{configuration}
use Rattle.rs_field.specs.code.Code.{Codes, AreRecovery}
use Rattle.rs_field.specs.code.CodeLaws.{xor_shards}
use Rattle.rs_field.specs.code.Given.{nothing, with_entry}
use Rattle.rs_field.specs.code.Decoder.{DecoderState, IsAgreeing, Restored, DecodeAnswers}

-- shards of two bytes, of which the second is zero
abbrev pub low_bytes : List ℕ → List Shard
low_bytes bytes = map (λ b. b ∷ 0 ∷ []) bytes

-- a message of shards of two bytes has these recovery shards, and a polynomial codes its only column
abbrev pub Recovers : Rate → List Shard → List ℕ → List Shard → Type 0
Recovers rate message polynomial recovery =
    Codes rate (length message) (length recovery) (columns 0 message) polynomial
    × AreRecovery (configuration rate (length message) (length recovery) 2) message recovery

-- one original is a constant polynomial: each recovery shard is its copy
abbrev pub ConstantExample : Rate → Type 0
ConstantExample rate =
    Recovers rate ((7 ∷ 9 ∷ []) ∷ []) ((7 + 256 * 9) ∷ []) ((7 ∷ 9 ∷ []) ∷ (7 ∷ 9 ∷ []) ∷ (7 ∷ 9 ∷ []) ∷ [])

-- the words 0, 1 at the points 0, 1 are values of the polynomial x, and the recovery words are its values at the points
-- 2, 3, 4
abbrev pub LineExample : Rate → Type 0
LineExample rate = Recovers rate (low_bytes (0 ∷ 1 ∷ [])) (0 ∷ 1 ∷ []) (low_bytes (2 ∷ 3 ∷ 4 ∷ []))

-- the message 1, 1 has the polynomial 1. Its XOR with the message 0, 1 above is 1, 0, with the polynomial 1 + x, whose
-- recovery shards are the XOR of both lists
abbrev pub LinearExample : Rate → Type 0
LinearExample rate =
    Recovers rate (low_bytes (1 ∷ 1 ∷ [])) (1 ∷ 0 ∷ []) (low_bytes (1 ∷ 1 ∷ 1 ∷ []))
    × (xor_shards (low_bytes (1 ∷ 1 ∷ [])) (low_bytes (0 ∷ 1 ∷ [])) ≡ low_bytes (1 ∷ 0 ∷ []))
    × Recovers rate (low_bytes (1 ∷ 0 ∷ [])) (1 ∷ 1 ∷ []) (low_bytes (3 ∷ 2 ∷ 5 ∷ []))
    × (xor_shards (low_bytes (1 ∷ 1 ∷ 1 ∷ [])) (low_bytes (2 ∷ 3 ∷ 4 ∷ [])) ≡ low_bytes (3 ∷ 2 ∷ 5 ∷ []))

-- the line at two points
abbrev pub ShortLineExample : Rate → Type 0
ShortLineExample rate = Recovers rate (low_bytes (0 ∷ 1 ∷ [])) (0 ∷ 1 ∷ []) (low_bytes (2 ∷ 3 ∷ []))

-- the words 0, 0, 2, 3 at the points 0 to 3 are values of the polynomial x * x * x + x * x, and the recovery words are
-- its values at the points 4 to 7
abbrev pub CubicExample : Rate → Type 0
CubicExample rate = Recovers rate (low_bytes (0 ∷ 0 ∷ 2 ∷ 3 ∷ [])) (0 ∷ 0 ∷ 1 ∷ 1 ∷ [])
    (low_bytes (11 ∷ 9 ∷ 14 ∷ 13 ∷ []))

-- the words 0, 0, 1 are at the points 0 to 2, the point 3 is a zero point, and the recovery words are at the points 4
-- to 8
abbrev pub PaddedExample : Rate → Type 0
PaddedExample rate =
    Recovers rate (low_bytes (0 ∷ 0 ∷ 1 ∷ [])) (0 ∷ 3 ∷ 2 ∷ 1 ∷ []) (low_bytes (10 ∷ 8 ∷ 12 ∷ 15 ∷ 8 ∷ []))

-- examples of the low rate, and of the default rate if the power of k is below the power of r
abbrev pub LowExamples : Rate → Type 0
LowExamples rate = ConstantExample rate × LineExample rate × LinearExample rate × PaddedExample rate

-- four bytes are two words: bytes 1 and 3 are the second one
abbrev pub TailExample : Type 0
TailExample =
    AreRecovery (configuration default_rate 2 3 4) ((0 ∷ 0 ∷ 0 ∷ 0 ∷ []) ∷ (0 ∷ 1 ∷ 0 ∷ 0 ∷ []) ∷ [])
    ((0 ∷ 2 ∷ 0 ∷ 0 ∷ []) ∷ (0 ∷ 3 ∷ 0 ∷ 0 ∷ []) ∷ (0 ∷ 4 ∷ 0 ∷ 0 ∷ []) ∷ [])

-- shards of 66 bytes, zero but for byte 64
abbrev pub last_words : List ℕ → List Shard
last_words bytes = map (λ b. replicate 64 0 ++ b ∷ 0 ∷ []) bytes

-- a chunk is followed by a tail of one word
abbrev pub ChunkAndTailExample : Type 0
ChunkAndTailExample =
    AreRecovery (configuration default_rate 2 3 66) (last_words (0 ∷ 1 ∷ [])) (last_words (2 ∷ 3 ∷ 4 ∷ []))

-- at the high rate, if there is one recovery shard, it is the sum of all originals
abbrev pub SumExample : Rate → Type 0
SumExample rate = AreRecovery (configuration rate 3 1 2) ((1 ∷ 2 ∷ []) ∷ (4 ∷ 8 ∷ []) ∷ (16 ∷ 32 ∷ []) ∷ [])
    ((21 ∷ 42 ∷ []) ∷ [])

-- at the high rate, the words 0, 1 are at the points 2, 3 and their recovery words are at the points 0, 1
abbrev pub HighLineExample : Rate → Type 0
HighLineExample rate = AreRecovery (configuration rate 2 2 2) (low_bytes (0 ∷ 1 ∷ [])) (low_bytes (2 ∷ 3 ∷ []))

-- at the high rate, the words 0, 0, 2, 3 are at the points 4 to 7 and their recovery words are at the points 0 to 3
abbrev pub HighCubicExample : Rate → Type 0
HighCubicExample rate =
    AreRecovery (configuration rate 4 4 2) (low_bytes (0 ∷ 0 ∷ 2 ∷ 3 ∷ [])) (low_bytes (11 ∷ 9 ∷ 14 ∷ 13 ∷ []))

-- at the high rate, the words 2, 0, 4 are at the points 2 to 4, the points from 5 on are zero points, and the recovery
-- words are at the points 0, 1
abbrev pub HighPaddedExample : Rate → Type 0
HighPaddedExample rate = AreRecovery (configuration rate 3 2 2) (low_bytes (2 ∷ 0 ∷ 4 ∷ [])) (low_bytes (3 ∷ 5 ∷ []))

-- examples of the high rate, and of the default rate for counts for which it is the high rate
abbrev pub HighExamples : Rate → Type 0
HighExamples rate = SumExample rate × HighLineExample rate × HighCubicExample rate × HighPaddedExample rate

-- a decoder of two originals and three recovery shards that was given the first two recovery shards
abbrev pub state_of_two : DecoderState
state_of_two = record {
  configuration = configuration default_rate 2 3 2;
  originals = nothing;
  recovery = with_entry (with_entry nothing 0 (2 ∷ 0 ∷ [])) 1 (3 ∷ 0 ∷ []);
}

-- one message agrees with the two recovery shards, no other does, and it is restored
abbrev pub RestoredExample : Type 0
RestoredExample =
    IsAgreeing state_of_two (low_bytes (0 ∷ 1 ∷ []))
    × ((message : List Shard) → IsAgreeing state_of_two message → message ≡ low_bytes (0 ∷ 1 ∷ []))
    × Restored state_of_two (with_entry (with_entry nothing 0 (0 ∷ 0 ∷ [])) 1 (1 ∷ 0 ∷ []))

-- two originals and two recovery shards, given out of order, agree with a message of four shards
abbrev pub MixtureExample : Type 0
MixtureExample =
    IsAgreeing
    (record {
      configuration = configuration default_rate 4 4 2;
      originals = with_entry (with_entry nothing 3 (3 ∷ 0 ∷ [])) 1 (0 ∷ 0 ∷ []);
      recovery = with_entry (with_entry nothing 2 (14 ∷ 0 ∷ [])) 0 (11 ∷ 0 ∷ []);
    })
    (low_bytes (0 ∷ 0 ∷ 2 ∷ 3 ∷ []))

-- a decoder of one original and two recovery shards that was given the original and one recovery shard
abbrev pub state_of_surplus : Shard → DecoderState
state_of_surplus recovery = record {
  configuration = configuration default_rate 1 2 2;
  originals = with_entry nothing 0 (7 ∷ 9 ∷ []);
  recovery = with_entry nothing 0 recovery;
}

-- if the recovery shard is a copy of the original, nothing is missing; if it is another shard, no message agrees
abbrev pub SurplusExample : Type 0
SurplusExample =
    DecodeAnswers (state_of_surplus (7 ∷ 9 ∷ [])) (Ok nothing)
    × DecodeAnswers (state_of_surplus (7 ∷ 8 ∷ [])) (Err (InconsistentShards 1 1))
