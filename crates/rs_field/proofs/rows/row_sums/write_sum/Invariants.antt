use Rattle.std.proofs.Common.{◌≡◌, ℕ, ◌*◌, ◌<◌, length, bit_xor}
use Rattle.rs_field.specs.rows.AddedRows.{row_sum}
use Rattle.rs_field.specs.rows.Rows.{chunk, symbol}
use Rattle.rs_field.specs.words.StepBounds.{CountsUpTo}
use Rattle.rs_field.proofs.rows.row_sums.write_sum.Given as goal

-- The rows before this one were added.
abbrev pub invariant-loop-index : goal.invariant-loop-index
invariant-loop-index g l = record {
  room : length l.x ≡ length l.initial.x;
  done : (k s : ℕ) → k < g.A.ReadRows.row_len l.sum.rows.now → s < 32
      → symbol (chunk l.x k) s
      ≡ bit_xor (symbol (chunk l.initial.x k) s)
      (row_sum l.index (λ i. g.A.AddedRows.log l.sum.rows.now i l.sum.index) (g.A.ReadRows.word l.sum.rows.now k s));
  counts : CountsUpTo (3 * l.index) 0 0 l.initial.steps l.steps;
}
