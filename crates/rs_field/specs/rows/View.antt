-- The rows of a `ShardsRefMut`, by row, chunk and symbol.
use Rattle.std.specs.Prelude.{◌≡◌, ℕ, List, ◌+◌, ◌*◌, ◌≤◌, ◌<◌, length, replicate, take, drop}
use Rattle.std.specs.Borrow.{MutBor}
use Rattle.rs_field.specs.rows.Rows.{Chunks, chunk, symbol, SameOutside}
use Rattle.rs_field.specs.declared.rows.shards.ShardsRefMut.{ShardsRefMut}

-- there are enough chunks for the rows
abbrev pub Fits : ShardsRefMut → Type 0
Fits r = r.shard_count * r.shard_len_64 ≤ length r.chunks.now

-- row i, as a list of chunks
abbrev pub row_at : ShardsRefMut → ℕ → Chunks
row_at r i = take r.shard_len_64 (drop (i * r.shard_len_64) r.chunks.now)

-- chunk k of row i
unfoldable pub cell : ShardsRefMut → ℕ → ℕ → List ℕ
cell r k i = chunk r.chunks.now (i * r.shard_len_64 + k)

-- symbol s of chunk k of row i
abbrev pub word : ShardsRefMut → ℕ → ℕ → ℕ → ℕ
word r k s i = symbol (cell r k i) s

-- `part` is a list that consists of the m rows from row i on
pub record HasRows (r : ShardsRefMut) (i m : ℕ) (part : ShardsRefMut) : Type 0 where
  pub count : part.shard_count ≡ m
  pub len_64 : part.shard_len_64 ≡ r.shard_len_64
  pub chunks : part.chunks.now ≡ take (m * r.shard_len_64) (drop (i * r.shard_len_64) r.chunks.now)

-- a list of m rows of n chunks each that lie in these chunks
pub record IsListOf (r : ShardsRefMut) (chunks : MutBor Chunks) (m n : ℕ) : Type 0 where
  pub name : r.chunks.ghost_name ≡ chunks.ghost_name
  pub now : r.chunks.now ≡ chunks.now
  pub count : r.shard_count ≡ m
  pub len_64 : r.shard_len_64 ≡ n

-- the number of rows, their length, the number of chunks and the loan are as before
pub record SameExtent (old new : ShardsRefMut) : Type 0 where
  pub name : new.chunks.ghost_name ≡ old.chunks.ghost_name
  pub count : new.shard_count ≡ old.shard_count
  pub len_64 : new.shard_len_64 ≡ old.shard_len_64
  pub length : length new.chunks.now ≡ length old.chunks.now

-- the chunks before row a and those from row b on are the same in both lists, also the chunks after the last row
abbrev pub SameRowsOutside : ℕ → ℕ → ShardsRefMut → ShardsRefMut → Type 0
SameRowsOutside a b old new = SameOutside (a * old.shard_len_64) (b * old.shard_len_64) old.chunks.now new.chunks.now

-- rows a to b - 1 are zero bytes
abbrev pub AreZero : ℕ → ℕ → ShardsRefMut → Type 0
AreZero a b r = (i k : ℕ) → k < r.shard_len_64 → a ≤ i → i < b → cell r k i ≡ replicate 64 0
