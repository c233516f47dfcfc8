use Rattle.std.proofs.Common.{◌≡◌, ℕ, ◌*◌, ◌<◌, ◌≤◌, length, bit_xor}
use Rattle.rs_field.specs.rows.Rows.{chunk, word_in}
use Rattle.rs_field.specs.rows.Written.{held}
use Rattle.rs_field.proofs.rows.reading.write_rows.Given as goal

abbrev pub invariant-loop-index : goal.invariant-loop-index
invariant-loop-index g l = record {
  length : length l.x ≡ length l.initial.x;
  done : (k s i : ℕ) → k < g.R.ReadRows.row_len l.rows → s < 32 → i < l.index
      → word_in l.x (g.R.ReadRows.row_len l.rows) k s i
      ≡ bit_xor (held l.writing (word_in l.initial.x (g.R.ReadRows.row_len l.rows) k s i))
      (g.R.ReadRows.word l.rows k s i);
  rest : (j : ℕ) → l.index * g.R.ReadRows.row_len l.rows ≤ j → chunk l.x j ≡ chunk l.initial.x j;
}
