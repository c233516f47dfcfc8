-- What one pass over the rows of a decode does to each row.
use Rattle.std.proofs.Common.{rules, ◌≡◌, ℕ, ◌+◌, ◌-◌, ◌/◌, ◌%◌, ◌<◌, ◌≤◌, Bool, true, false, cond, sym, ap, ◌∙◌, arith}
use Rattle.std.specs.Prelude.{replicate, slice_index, List, ◌↔◌}
use Rattle.rs_field.specs.words.Transform.{forward}
use Rattle.rs_field.specs.words.StepBounds.{CountsUpTo}
use Rattle.rs_field.specs.words.Field.{product, power}
use Rattle.rs_field.specs.rows.Rows.{chunk}
use Rattle.rs_field.specs.rows.View.{cell, word, row_at, Fits, SameExtent, SameRowsOutside}
use Rattle.rs_field.specs.declared.rows.shards.ShardsRefMut.{ShardsRefMut}
use Rattle.rs_field.specs.declared.words.steps.Steps.{Steps}
use Rattle.rs_field.specs.rows.MarkedRows.{is_marked}
use Rattle.rs_rate.specs.passes.Decoding.{located_word}
use Rattle.rs_rate.proofs.rows_lemmas.ShardRowsLemmas.{part-read}

-- A chunk of row i is the cell of its column in row i.
pub row-read : (r : ShardsRefMut) (i k : ℕ) → Fits r → i < r.shard_count → k < r.shard_len_64
    → chunk (row_at r i) k ≡ cell r k i
unfolding cell
row-read r i k fits hi hk = search (rules, part-read)

-- One row was multiplied by its locator factor, in at most one row step, and no other row was changed.
pub record RowLocated (marks : List Bool) (locator : List ℕ) (p : ℕ) (old new : ShardsRefMut)
    (before after : Steps) : Type 0 where
  pub extent : SameExtent old new
  pub others : SameRowsOutside p (p + 1) old new
  pub located_here : (k s : ℕ) → k < old.shard_len_64 → s < 32
      → word new k s p ≡ located_word marks locator (word old k s) p
  pub cleared : (k : ℕ) → k < old.shard_len_64 → is_marked marks p ≡ false → cell new k p ≡ replicate 64 0
  pub counts : CountsUpTo 1 0 0 before after

pub located_word-at : (marks : List Bool) (locator : List ℕ) (words : ℕ → ℕ) (p : ℕ) (given : Bool)
    → is_marked marks p ≡ given
    → located_word marks locator words p ≡ cond given (product (words p) (power (slice_index locator p))) 0
unfolding located_word
located_word-at marks locator words p given is =
    ap (λ b. cond b (product (words p) (power (slice_index locator p))) 0) is

-- If a word was not changed, its located word was not changed.
pub located_word-same : (marks : List Bool) (locator : List ℕ) (old new : ℕ → ℕ) (p : ℕ) → new p ≡ old p
    → located_word marks locator new p ≡ located_word marks locator old p
unfolding located_word
located_word-same marks locator old new p same =
    ap (λ w. cond (is_marked marks p) (product w (power (slice_index locator p))) 0) same

-- If a row belongs to a missing original, the row was revealed in at most one row step, and no other row was changed.
pub record RowRevealed (marks : List Bool) (locator : List ℕ) (p : ℕ) (old new : ShardsRefMut)
    (before after : Steps) : Type 0 where
  pub extent : SameExtent old new
  pub others : SameRowsOutside p (p + 1) old new
  pub revealed_here : (k s : ℕ) → k < old.shard_len_64 → s < 32 → is_marked marks p ≡ true
      → word new k s p ≡ product (word old k s p) (power (65535 - slice_index locator p))
  pub counts : CountsUpTo 1 0 0 before after

-- Values of a transform at rows from 0 on are values of the transform of the whole column.
pub from_row_zero : (size n i : ℕ) (values coefficients : ℕ → ℕ) → size ≡ n
    → values (0 + i) ≡ forward size 0 (λ q. coefficients (0 + q)) i
    → values i ≡ forward n 0 coefficients i
from_row_zero size n i values coefficients same is = search rules

-- The last rows are zero exactly if the check of the last rows returns true.
pub checked_rows : (rows surplus size count first : ℕ) (f : ℕ → ℕ → ℕ → ℕ) (answer agrees : Bool) → surplus ≤ rows
    → first ≡ rows - surplus → count ≡ rows → answer ≡ agrees
    → ((i j : ℕ) → first ≤ i → i < count → j < size / 2 → f (j / 32) (j % 32) i ≡ 0) ↔ (answer ≡ true)
    → ((i j : ℕ) → rows ≤ i + surplus → i < rows → j < size / 2 → f (j / 32) (j % 32) i ≡ 0) ↔ (agrees ≡ true)
checked_rows rows surplus size count first f answer agrees few is all same (zero_rows, are_zero_rows) = (
  λ h. sym same ∙ zero_rows (λ i j from to inside. h i j (omega arith) (omega arith) inside),
  λ h i j from to inside. are_zero_rows (same ∙ h) i j (omega arith) (omega arith) inside,
)
