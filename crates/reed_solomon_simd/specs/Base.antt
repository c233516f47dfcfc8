-- The base of direct sums: received shards in marked rows, over which the words of all other shards are summed.
use Rattle.std.specs.Prelude.{◌≡◌, ◌≢◌, ℕ, ◌+◌, ◌/◌, ◌%◌, ◌<◌, ◌≤◌, Bool, true, false, List, length, Some, None}
use Rattle.std.specs.Prelude.{is_some, if◌then◌else◌}
use Rattle.rs_field.specs.declared.code.frame.Frame.{Frame}
use Rattle.rs_field.specs.code.Column.{Shard, IsShard, column}
use Rattle.rs_field.specs.code.Counts.{default_rate}
use Rattle.rs_field.specs.code.Decoder.{DecoderState, IsDecoder, originals_given, recovery_given}
use Rattle.rs_field.specs.code.DirectLaws.{shard_in_row, summed_word}
use Rattle.rs_field.specs.code.Frame.{frame_at, row_count, original_row, recovery_row}
use Rattle.rs_field.specs.code.Given.{Shards}
use Rattle.rs_field.specs.code.Pieces.{IsStrip}
use Rattle.rs_field.specs.rows.MarkedRows.{is_marked}
use Rattle.rs_rate.specs.declared.passes.sums.SumBase.{SumBase}
use Rattle.rs_rate.specs.passes.Decoding.{IsLocatorOf}
use Rattle.reed_solomon_simd.specs.StripSums.{chunks_of_sums}
use Rattle.reed_solomon_simd.specs.declared.shard_index.ShardIndex.{ShardIndex}
use Rattle.reed_solomon_simd.specs.declared.shard_index.ShardIndex.TheVariants.{Original, Recovery}

-- the row of a shard
abbrev pub row_of : Frame → ShardIndex → ℕ
row_of frame (Original i) = original_row frame i
row_of frame (Recovery i) = recovery_row frame i

-- the shards with marked rows, of a map in which the shard with the index i has the row from + i
unfoldable pub marked_part : List Bool → ℕ → Shards → Shards
marked_part marks from given i = if is_marked marks (from + i) then given i else None

-- the received shards with marked rows
abbrev pub marked_state : List Bool → DecoderState → DecoderState
marked_state marks s =
    record s {
      originals = marked_part marks (frame_at s.configuration).originals_from s.originals;
      recovery = marked_part marks (frame_at s.configuration).recovery_from s.recovery;
    }

-- exactly the rows are marked in which a shard was received
pub record MarksReceived (s : DecoderState) (marks : List Bool) : Type 0 where
  pub count : length marks ≡ row_count (frame_at s.configuration)
  pub exact : (x : ℕ) → x < length marks → is_marked marks x ≡ is_some (shard_in_row s x)

-- the shards that were received in marked rows are a base: as many as there are originals
pub record MarkBase (s : DecoderState) (marks : List Bool) : Type 0 where
  pub received : (x : ℕ) → is_marked marks x ≡ true → is_some (shard_in_row s x) ≡ true
  pub enough : originals_given (marked_state marks s) + recovery_given (marked_state marks s)
      ≡ s.configuration.original_count

-- a base of the first received shards, with the locator of all other rows: up to the last row of the base, the marked
-- rows are those in which a shard was received
pub record IsBase (s : DecoderState) (base : SumBase) : Type 0 where
  pub marked : MarkBase s base.marks.now
  pub exact : (x : ℕ) → x < length base.marks.now → is_marked base.marks.now x ≡ is_some (shard_in_row s x)
  pub located : IsLocatorOf (frame_at s.configuration) base.marks.now base.locator.now

-- the conditions of summing a strip of the received shards, of which this number is not in the base
pub record CanSum (s : DecoderState) (base : SumBase) (surplus start end : ℕ) : Type 0 where
  pub set_up : IsDecoder default_rate s
  pub based : IsBase s base
  pub surplus_is : originals_given s + recovery_given s ≡ s.configuration.original_count + surplus
  pub strip : IsStrip start end s.configuration.shard_bytes

-- a strip of a shard that was received in a row can be read
pub record HasPiece (s : DecoderState) (start end x : ℕ) : Type 0 where
  pub set_up : IsDecoder default_rate s
  pub order : start ≤ end
  pub inside : end ≤ s.configuration.shard_bytes
  pub begins : start % 64 ≡ 0
  pub ends : end % 64 ≢ 0 → end ≡ s.configuration.shard_bytes
  pub there : is_some (shard_in_row s x) ≡ true

-- a base of received shards, with the number of received shards that are not in it, and enough chunks to sum wanted
-- shards for strips of n bytes
pub record AreSumsReady (base : SumBase) (surplus wanted chunks : ℕ) (s : DecoderState) (n : ℕ) : Type 0 where
  pub based : IsBase s base
  pub surplus_is : originals_given s + recovery_given s ≡ s.configuration.original_count + surplus
  pub enough : chunks_of_sums wanted n ≤ chunks

-- the direct sum over the base for word j of the shard in a row
abbrev pub base_sum : List Bool → DecoderState → ℕ → ℕ → ℕ
base_sum marks s j x =
    let base = marked_state marks s in summed_word base.configuration base.originals base.recovery j x

-- a shard has the direct sums over the base as its words
pub record IsBaseSum (marks : List Bool) (s : DecoderState) (x : ℕ) (shard : Shard) : Type 0 where
  pub is_shard : IsShard s.configuration.shard_bytes shard
  pub words : (j : ℕ) → j < s.configuration.shard_bytes / 2 → column j shard ≡ base_sum marks s j x

-- the shard that was received in a row outside of the base, if there is one, has the direct sums as its words
abbrev pub AgreesInRow : List Bool → DecoderState → ℕ → Type 0
AgreesInRow marks s x =
    (shard : Shard) → shard_in_row s x ≡ Some shard → is_marked marks x ≡ false → IsBaseSum marks s x shard
