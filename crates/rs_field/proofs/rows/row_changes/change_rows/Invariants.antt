use Rattle.std.proofs.Common.{◌≡◌, ◌*◌, length}
use Rattle.rs_field.specs.rows.Changed.{AreChangedFrom}
use Rattle.rs_field.specs.words.StepBounds.{ChangeCounts}
use Rattle.rs_field.proofs.rows.row_changes.change_rows.Given as goal

abbrev pub invariant-loop-row : goal.invariant-loop-row
invariant-loop-row g l = record {
  changed : AreChangedFrom l.change l.logs 0 l.row (g.R.ChangeRows.word l.initial.rows) (g.R.ChangeRows.word l.rows);
  kept : g.R.ChangeRows.kept l.rows ≡ g.R.ChangeRows.kept l.initial.rows;
  counts : ChangeCounts (l.row * length l.change.old.now) l.initial.steps l.steps;
}
