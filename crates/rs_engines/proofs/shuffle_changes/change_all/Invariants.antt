use Rattle.std.proofs.Common.{◌≡◌, ◌-◌, ◌≤◌, length}
use Rattle.rs_field.specs.rows.Changed.{AreChangedFrom}
use Rattle.rs_engines.proofs.shuffle_changes.change_all.Given as goal

abbrev pub decreases-loop-at : goal.decreases-loop-at
decreases-loop-at g l = length l.logs - l.at

abbrev pub invariant-loop-at : goal.invariant-loop-at
invariant-loop-at g l = record {
  inside : l.at ≤ length l.logs;
  changed : AreChangedFrom l.change l.logs 0 l.at (g.R.ChangeRows.word l.initial.rows) (g.R.ChangeRows.word l.rows);
  kept : g.R.ChangeRows.kept l.rows ≡ g.R.ChangeRows.kept l.initial.rows;
}
