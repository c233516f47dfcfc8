-- Sums over a strip of received shards, and the rooms into which they are put.
use Rattle.std.specs.Prelude.{◌≡◌, ◌⊎◌, ℕ, ◌+◌, ◌-◌, ◌*◌, ◌/◌, ◌<◌, ◌≤◌, List, [], ◌++◌, length, take, drop}
use Rattle.std.specs.Prelude.{max, min}
use Rattle.std.specs.Prelude.{slice_index_or}
use Rattle.rs_field.specs.code.Column.{Shard, IsShard, column}
use Rattle.rs_field.specs.code.Decoder.{DecoderState, IsAgreeing}
use Rattle.rs_field.specs.code.PieceStates.{state_of_pieces}
use Rattle.rs_field.specs.rows.Layout.{row_len}
use Rattle.rs_field.specs.rows.Rows.{Chunks}
use Rattle.rs_rate.specs.declared.passes.sums.SumBase.{SumBase}
use Rattle.rs_rate.specs.rows.ShardRows.{shard_from}
use Rattle.rs_rate.specs.passes.BaseSum.{base_sum}
use Rattle.reed_solomon_simd.specs.declared.shard_index.ShardIndex.{ShardIndex}
use Rattle.reed_solomon_simd.specs.ShardNames.{shard_named}

-- a shard of a size has the direct sums over a base for row y as its words, where row x of the base has the word
-- `f j x` at j
pub record HasSums (base : SumBase) (f : ℕ → ℕ → ℕ) (size y : ℕ) (shard : Shard) : Type 0 where
  pub is_shard : IsShard size shard
  pub words : (j : ℕ) → j < size / 2 → column j shard ≡ base_sum base (f j) y

-- a piece of a strip of received shards is that of a wanted shard, for each message that agrees with the strip
pub record IsPieceOf (s : DecoderState) (start end : ℕ) (wanted : ShardIndex) (piece : Shard) : Type 0 where
  pub long : length piece ≡ end - start
  pub is : (message : List Shard) (agrees : IsAgreeing (state_of_pieces start end s) message)
      → piece ≡ shard_named message agrees.coded.0 wanted

-- the first n rooms hold their pieces from one byte up to another, and the others hold what they held before
pub record PutBelow (start end : ℕ) (pieces old now : List Shard) (n : ℕ) : Type 0 where
  pub put : (i : ℕ) → i < n → slice_index_or now i []
      ≡ take start (slice_index_or old i []) ++ (slice_index_or pieces i [] ++ drop end (slice_index_or old i []))
  pub others : (i : ℕ) → n ≤ i → slice_index_or now i [] ≡ slice_index_or old i []

-- pieces of a size were written into the rooms from a up to b, after the first `start` bytes of each, and the other
-- rooms hold what they held before
pub record ArePutFrom (a b start size : ℕ) (pieces : ℕ → Shard) (old now : List Shard) : Type 0 where
  pub put : (i : ℕ) → a ≤ i → i < b → slice_index_or now i []
      ≡ take start (slice_index_or old i [])
      ++ (pieces (i - a) ++ drop (start + size) (slice_index_or old i []))
  pub others : (i : ℕ) → (i < a) ⊎ (b ≤ i) → slice_index_or now i [] ≡ slice_index_or old i []

-- the number of chunks from the beginning of one sum of pieces of a size to that of the next: the least odd multiple of
-- four that is enough
abbrev pub sum_stride : ℕ → ℕ
sum_stride size = (row_len size + 3) / 8 * 8 + 4

-- the sum with this index, of sums of pieces of a size
abbrev pub sum_at : Chunks → ℕ → ℕ → Shard
sum_at chunks size d = shard_from chunks (d * sum_stride size) size

-- the chunks in which n wanted shards are summed, for strips of a size: those of up to four sums, and of at least one,
-- for the check of surplus shards
abbrev pub chunks_of_sums : ℕ → ℕ → ℕ
chunks_of_sums n size = max 1 (min 4 n) * sum_stride size
