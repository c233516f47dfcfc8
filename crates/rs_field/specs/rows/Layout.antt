-- The layout of a shard in a row of chunks.
use Rattle.std.specs.Prelude.{◌≡◌, ◌<◌, ℕ, ◌+◌, ◌-◌, ◌*◌, ◌/◌, ◌%◌, min, nat_lt, if◌then◌else◌, List, slice_index}
use Rattle.rs_field.specs.words.UpTo.{up_to}
use Rattle.rs_field.specs.code.Column.{Shard, column}
use Rattle.rs_field.specs.rows.Rows.{symbol}

-- the number of chunks of a row for shards of this size
abbrev pub row_len : ℕ → ℕ
row_len size = (size + 63) / 64

-- the place of byte b of a shard of this size in its chunk: the first half of a whole chunk or of the tail is at byte 0
-- and after, and the second half is at byte 32 and after
unfoldable pub byte_offset : ℕ → ℕ → ℕ
byte_offset size b =
    let half = min 64 (size - b / 64 * 64) / 2 in
    if nat_lt (b % 64) half then b % 64 else b % 64 - half + 32

-- the shard in a row with these chunks
unfoldable pub laid_out : ℕ → (ℕ → List ℕ) → Shard
laid_out size chunks = up_to size (λ b. slice_index (chunks (b / 64)) (byte_offset size b))

-- the first bytes of the chunks, one after another, which are the shard after its tail was moved
unfoldable pub in_order : ℕ → (ℕ → List ℕ) → Shard
in_order size chunks = up_to size (λ b. slice_index (chunks (b / 64)) (b % 64))

-- column j of a shard is one symbol of its row: symbol j % 32 of chunk j / 32
abbrev pub LaysColumns : Type 0
LaysColumns = (size j : ℕ) (chunks : ℕ → List ℕ) → size % 2 ≡ 0 → j < size / 2
    → column j (laid_out size chunks) ≡ symbol (chunks (j / 32)) (j % 32)

-- the row with these chunks has the word 0 in each column of shards of this size
abbrev pub HasZeroColumns : ℕ → (ℕ → List ℕ) → Type 0
HasZeroColumns size chunks = (j : ℕ) → j < size / 2 → symbol (chunks (j / 32)) (j % 32) ≡ 0
