-- Rows of chunks, and the shards in them.
use Rattle.std.specs.Prelude.{◌≡◌, ℕ, ◌+◌, ◌*◌, ◌<◌, List, length, slice_index, bit_xor}
use Rattle.rs_field.specs.code.Column.{Shard}
use Rattle.rs_field.specs.rows.Rows.{Chunks, chunk}
use Rattle.rs_field.specs.rows.Layout.{row_len, laid_out, in_order}

-- chunk k of row i, in rows for shards of this size
unfoldable pub row_chunk : Chunks → ℕ → ℕ → ℕ → List ℕ
row_chunk chunks size i k = chunk chunks (i * row_len size + k)

-- the shard of this size in the first bytes of the chunks from this one on
abbrev pub shard_from : Chunks → ℕ → ℕ → Shard
shard_from chunks start size = in_order size (λ k. chunk chunks (start + k))

-- the shard that was laid into row i
abbrev pub shard_laid_out : Chunks → ℕ → ℕ → Shard
shard_laid_out chunks size i = laid_out size (row_chunk chunks size i)

-- the shard in row i after its tail was moved
abbrev pub shard_in_order : Chunks → ℕ → ℕ → Shard
shard_in_order chunks size i = in_order size (row_chunk chunks size i)

-- a shard is the sum of two shards of its size, byte by byte
pub record IsByteSum (one other sum : Shard) : Type 0 where
  pub length_is : length sum ≡ length other
  pub bytes : (b : ℕ) → b < length other → slice_index sum b ≡ bit_xor (slice_index one b) (slice_index other b)
