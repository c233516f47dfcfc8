-- Rows that are marked by a list of marks, and rows that are used.
use Rattle.std.specs.Prelude.{◌≡◌, ℕ, ◌+◌, ◌<◌, ◌≤◌, Bool, false, List, length, nat_lt, replicate, slice_index_or}
use Rattle.rs_field.specs.rows.View.{cell}
use Rattle.rs_field.specs.declared.rows.marked_rows.UsedRows.{UsedRows}
use Rattle.rs_field.specs.declared.rows.shards.ShardsRefMut.{ShardsRefMut}

-- whether row i is marked; a row that has no mark is not marked
abbrev pub is_marked : List Bool → ℕ → Bool
is_marked marks i = slice_index_or marks i false

-- among the `size` rows from row `pos` on, all rows except for some are zero bytes
abbrev pub AreZeroBut : (ℕ → Bool) → ℕ → ℕ → ShardsRefMut → Type 0
AreZeroBut some pos size rows =
    (i k : ℕ) → k < rows.shard_len_64 → i < size → some i ≡ false → cell rows k (pos + i) ≡ replicate 64 0

-- among the rows from row `pos` on, as many as there are marks, all rows except for the marked ones are zero bytes
abbrev pub OthersAreZero : List Bool → ℕ → ShardsRefMut → Type 0
OthersAreZero marks pos rows = AreZeroBut (is_marked marks) pos (length marks) rows

-- whether row i is used: it is one of the first ones, or marked
abbrev pub is_used : UsedRows → ℕ → Bool
is_used (UsedRows.First count) i = nat_lt i count
is_used (UsedRows.Marked marks) i = is_marked marks.now i

-- if there are marks, there is one for each of the n rows
abbrev pub HasMarks : UsedRows → ℕ → Type 0
HasMarks (UsedRows.First count) size = 0 ≤ size
HasMarks (UsedRows.Marked marks) size = size ≤ length marks.now

-- among the `size` rows from row `pos` on, all rows except for the used ones are zero bytes
abbrev pub UnusedAreZero : UsedRows → ℕ → ℕ → ShardsRefMut → Type 0
UnusedAreZero used pos size rows = AreZeroBut (is_used used) pos size rows
