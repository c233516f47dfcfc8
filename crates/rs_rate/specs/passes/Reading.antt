-- Originals that are read where they are: their words, and the configurations of encoders that read them.
use Rattle.std.specs.Prelude.{◌≡◌, ℕ, ◌+◌, ◌*◌, ◌%◌, ◌<◌, ◌≤◌, ◌&&◌, nat_lt, Bool, false, if◌then◌else◌, List, length}
use Rattle.rs_field.specs.code.Column.{Shard, column, shard_at}
use Rattle.rs_field.specs.rows.Rows.{Chunks, chunk, symbol}
use Rattle.rs_rate.specs.declared.values.configuration.Configuration.{Configuration}
use Rattle.rs_rate.specs.values.Configured.{block_of, rows_to_encode}

-- the word of shard i that is symbol s of its chunk k
abbrev pub message_word : List Shard → ℕ → ℕ → ℕ → ℕ
message_word shards k s i = column (k * 32 + s) (shard_at shards i)

-- n chunks whose symbols are zero
abbrev pub IsBlank : ℕ → Chunks → Type 0
IsBlank n chunks = (length chunks ≡ n) × ((k s : ℕ) → k < n → s < 32 → symbol (chunk chunks k) s ≡ 0)

-- the rate is high, a block has more than one row, and a shard has at most 64 chunks and no tail
pub record CanRead (c : Configuration) : Type 0 where
  pub high : c.frame.is_low ≡ false
  pub some : 1 < block_of c
  pub whole : c.shard_bytes % 64 ≡ 0
  pub short : c.shard_bytes ≤ 4096

-- the number of rows in which k originals are read in blocks: those of one block, and as many spare rows if there are
-- further blocks of more than four rows
unfoldable pub rows_to_read : ℕ → ℕ → ℕ
rows_to_read block k = if nat_lt 4 block && nat_lt block k then 2 * block else block

-- the number of rows in which a message is encoded whose originals are read where they are
abbrev pub read_rows : Configuration → ℕ
read_rows c = rows_to_read (block_of c) c.original_count

-- the number of rows in which a message is encoded
abbrev pub strip_rows : Bool → Configuration → ℕ
strip_rows reads c = if reads then read_rows c else rows_to_encode c
