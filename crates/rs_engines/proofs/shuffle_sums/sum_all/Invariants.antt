use Rattle.std.proofs.Common.{◌≡◌, ◌-◌, ◌≤◌}
use Rattle.rs_engines.specs.Sums.{AreSumsFrom}
use Rattle.rs_engines.proofs.shuffle_sums.sum_all.Given as goal

abbrev pub decreases-loop-at : goal.decreases-loop-at
decreases-loop-at g l = g.A.AddedRows.sum_count l.added - l.at

abbrev pub invariant-loop-at : goal.invariant-loop-at
invariant-loop-at g l = record {
  inside : l.at ≤ g.A.AddedRows.sum_count l.added;
  done : AreSumsFrom l.writing (g.A.ReadRows.row_count l.added) (g.A.ReadRows.row_len l.added)
      (g.A.AddedRows.log l.added) (g.A.ReadRows.word l.added) 0 l.at
      (g.R.ChangeRows.word l.initial.rows) (g.R.ChangeRows.word l.rows);
  kept : g.R.ChangeRows.kept l.rows ≡ g.R.ChangeRows.kept l.initial.rows;
}
