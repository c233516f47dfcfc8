use Rattle.std.proofs.Common.{◌≡◌, ℕ, ◌+◌, ◌*◌, ◌<◌, ◌≤◌, length, bit_xor}
use Rattle.rs_field.specs.rows.AddedRows.{clear_steps, row_sum}
use Rattle.rs_field.specs.rows.Rows.{chunk, word_in}
use Rattle.rs_field.specs.rows.Written.{held}
use Rattle.rs_field.specs.words.StepBounds.{CountsUpTo}
use Rattle.rs_field.proofs.rows.row_sums.write_sums.Given as goal

-- The sums before this one were written, and nothing else.
abbrev pub invariant-loop-index : goal.invariant-loop-index
invariant-loop-index g l = record {
  room : length l.x ≡ length l.initial.x;
  done : (k s d : ℕ) → k < g.A.ReadRows.row_len l.fn.rows → s < 32 → d < l.index
      → word_in l.x l.fn.stride k s d
      ≡ bit_xor (held l.fn.writing (word_in l.initial.x l.fn.stride k s d))
      (row_sum (g.A.ReadRows.row_count l.fn.rows) (λ i. g.A.AddedRows.log l.fn.rows i d)
      (g.A.ReadRows.word l.fn.rows k s));
  past : (k s d : ℕ) → g.A.ReadRows.row_len l.fn.rows ≤ k → k < l.fn.stride → s < 32 → d < l.index
      → word_in l.x l.fn.stride k s d ≡ word_in l.initial.x l.fn.stride k s d;
  rest : (j : ℕ) → l.index * l.fn.stride ≤ j → chunk l.x j ≡ chunk l.initial.x j;
  counts : CountsUpTo (l.index * (clear_steps l.fn.writing + 3 * g.A.ReadRows.row_count l.fn.rows)) 0 0 l.initial.steps
      l.steps;
}
