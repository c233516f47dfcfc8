use Rattle.std.proofs.Common.{◌≡◌, ℕ, ◌*◌, ◌<◌, length}
use Rattle.rs_field.specs.rows.Rows.{word_in}
use Rattle.rs_field.specs.rows.Written.{AreGroupsWritten}
use Rattle.rs_field.specs.words.StepBounds.{CountsUpTo}
use Rattle.rs_field.proofs.rows.read_blocks.ifft_of_groups.Given as goal

abbrev pub invariant-loop-group : goal.invariant-loop-group
invariant-loop-group g l = record {
  length : length l.x ≡ length l.initial.x;
  done : (k s : ℕ) → k < g.R.ReadRows.row_len l.rows → s < 32
      → AreGroupsWritten l.group l.skew_delta (g.R.ReadRows.word l.rows k s)
      (word_in l.x (g.R.ReadRows.row_len l.rows) k s);
  counts : CountsUpTo (l.group * 8) 0 0 l.fn.steps l.steps;
}
