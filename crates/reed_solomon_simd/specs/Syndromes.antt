-- Syndromes: the received recovery shards of a strip, each XOR the recovery shard of the received originals with zeros
-- for the missing ones.
use Rattle.std.specs.Prelude.{◌≡◌, ℕ, ◌+◌, ◌-◌, ◌<◌, ◌≤◌, Bool, true, false, List, length, replicate, unwrap_or}
use Rattle.std.specs.Prelude.{Some, is_some}
use Rattle.rs_field.specs.code.Code.{AreRecovery}
use Rattle.rs_field.specs.code.Column.{Shard, shard_at, column}
use Rattle.rs_field.specs.code.Counts.{default_rate}
use Rattle.rs_field.specs.code.Decoder.{DecoderState, IsDecoder, originals_given, recovery_given}
use Rattle.rs_field.specs.code.Frame.{frame_at, original_row, recovery_row, row_count}
use Rattle.rs_field.specs.code.Pieces.{IsStrip}
use Rattle.rs_field.specs.code.PieceStates.{state_of_pieces}
use Rattle.rs_field.specs.rows.MarkedRows.{is_marked}
use Rattle.rs_field.specs.words.UpTo.{up_to}
use Rattle.rs_rate.specs.declared.passes.sums.SumBase.{SumBase}
use Rattle.rs_rate.specs.declared.objects.strip_encoder.StripEncoder.{StripEncoder}
use Rattle.rs_rate.specs.passes.BaseSum.{base_sum as sum_of}
use Rattle.rs_rate.specs.passes.Decoding.{IsLocatorOf}
use Rattle.rs_rate.specs.objects.StripView.{code_of, coded_shards}
use Rattle.rs_rate.specs.rows.ShardRows.{IsByteSum}
use Rattle.reed_solomon_simd.specs.Base.{MarkBase}
use Rattle.reed_solomon_simd.specs.Making.{strip_configuration}
use Rattle.reed_solomon_simd.specs.declared.shard_index.ShardIndex.{ShardIndex}
use Rattle.reed_solomon_simd.specs.Reconstructed.{NamesMissing}
use Rattle.reed_solomon_simd.specs.Rounds.{IsReadyToEncode}
use Rattle.reed_solomon_simd.specs.StripSums.{HasSums, chunks_of_sums}

-- the received originals, with zeros for the missing ones
abbrev pub zeroed : DecoderState → List Shard
zeroed s =
    up_to s.configuration.original_count
    (λ i. unwrap_or (s.originals i) (replicate s.configuration.shard_bytes 0))

-- at the index of each received recovery shard there is its syndrome
pub record AreSyndromes (s : DecoderState) (shards : List Shard) : Type 0 where
  pub encoded : List Shard
  pub coded : AreRecovery s.configuration (zeroed s) encoded
  pub sums : (i : ℕ) (shard : Shard) → s.recovery i ≡ Some shard
      → IsByteSum (shard_at encoded i) shard (shard_at shards i)

-- marks of the rows of the received recovery shards, and of no others
pub record MarksRecovery (s : DecoderState) (marks : List Bool) : Type 0 where
  pub count : length marks ≡ row_count (frame_at s.configuration)
  pub coded : (i : ℕ) → i < s.configuration.recovery_count
      → is_marked marks (recovery_row (frame_at s.configuration) i) ≡ is_some (s.recovery i)
  pub only : (x : ℕ) → is_marked marks x ≡ true
      → (i : ℕ) × (i < s.configuration.recovery_count) × (x ≡ recovery_row (frame_at s.configuration) i)

-- the rows of received originals are marked in addition to those of other marks
pub record AddsOriginals (s : DecoderState) (marks all : List Bool) : Type 0 where
  pub own : (i : ℕ) → i < s.configuration.original_count
      → is_marked all (original_row (frame_at s.configuration) i) ≡ is_some (s.originals i)
  pub coded : (i : ℕ) → i < s.configuration.recovery_count
      → is_marked all (recovery_row (frame_at s.configuration) i)
      ≡ is_marked marks (recovery_row (frame_at s.configuration) i)
  pub only : (x : ℕ) → is_marked all x ≡ true → is_marked marks x ≡ false
      → (i : ℕ) × (i < s.configuration.original_count) × (x ≡ original_row (frame_at s.configuration) i)

-- the recovery rows of a base to which also the rows of all received originals belong: the first received recovery
-- shards, as many as originals are missing
pub record IsSyndromeBase (s : DecoderState) (base : SumBase) : Type 0 where
  pub all : List Bool
  pub marked : MarkBase s all
  pub located : IsLocatorOf (frame_at s.configuration) all base.locator.now
  pub adds : AddsOriginals s base.marks.now all
  pub only : (x : ℕ) → is_marked base.marks.now x ≡ true
      → (i : ℕ) × (i < s.configuration.recovery_count) × (x ≡ recovery_row (frame_at s.configuration) i)
  pub first : (i : ℕ) → i < s.configuration.recovery_count
      → recovery_row (frame_at s.configuration) i < length base.marks.now
      → is_marked base.marks.now (recovery_row (frame_at s.configuration) i) ≡ is_some (s.recovery i)

-- the syndromes of a strip are in an encoder, with a base for their sums, to which this number of received recovery
-- shards does not belong
pub record CanSumSyndromes (s : DecoderState) (base : SumBase) (surplus : ℕ) (encoder : StripEncoder) (start end : ℕ)
    : Type 0
  where
    pub set_up : IsDecoder default_rate s
    pub based : IsSyndromeBase s base
    pub surplus_is : originals_given s + recovery_given s ≡ s.configuration.original_count + surplus
    pub strip : IsStrip start end s.configuration.shard_bytes
    pub code : code_of encoder ≡ strip_configuration s (end - start)
    pub made : AreSyndromes (state_of_pieces start end s) (coded_shards encoder)

-- an encoder and a base for the syndromes of strips of n bytes, with the names of the missing originals, the number of
-- surplus shards, and enough chunks for the sums
pub record AreSyndromesReady (encoder : StripEncoder) (base : SumBase) (wanted : List ShardIndex) (surplus chunks : ℕ)
    (s : DecoderState) (n : ℕ) : Type 0
  where
    pub ready : IsReadyToEncode encoder s n
    pub based : IsSyndromeBase s base
    pub names : NamesMissing s.configuration.original_count s wanted
    pub surplus_is : originals_given s + recovery_given s ≡ s.configuration.original_count + surplus
    pub few : n ≤ 2048
    pub enough : chunks_of_sums (length wanted) n ≤ chunks

-- word j of the syndrome in row x
abbrev pub syndrome_word : DecoderState → List Shard → ℕ → ℕ → ℕ
syndrome_word s shards j x = column j (shard_at shards (x - (frame_at s.configuration).recovery_from))

-- the direct sum over the syndromes of the recovery rows of a base, for word j of the row y
abbrev pub syndrome_sum : DecoderState → SumBase → List Shard → ℕ → ℕ → ℕ
syndrome_sum s base shards j y = sum_of base (syndrome_word s shards j) y

-- a shard has the sums of the syndromes as its words
abbrev pub IsSyndromeSum : DecoderState → SumBase → List Shard → ℕ → Shard → Type 0
IsSyndromeSum s base shards y shard = HasSums base (syndrome_word s shards) s.configuration.shard_bytes y shard

-- the syndrome of a recovery shard that was received and is not in the base is the sum of those of the base
abbrev pub AgreesAt : DecoderState → SumBase → List Shard → ℕ → Type 0
AgreesAt s base shards i =
    (shard : Shard) → s.recovery i ≡ Some shard
    → is_marked base.marks.now (recovery_row (frame_at s.configuration) i) ≡ false
    → IsSyndromeSum s base shards (recovery_row (frame_at s.configuration) i) (shard_at shards i)
