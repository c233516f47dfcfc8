use Rattle.std.proofs.Common.{◌≡◌, ◌≢◌, ◌⊎◌, ℕ, ◌<◌, ◌≤◌}
use Rattle.rs_engines.proofs.twisted_rows.clear_row.Given as goal

abbrev pub invariant-loop-k : goal.invariant-loop-k
invariant-loop-k g l = record {
  done : (j s : ℕ) → j < l.k → s < 32 → g.R.ChangeRows.word l.rows j s l.row ≡ 0;
  others : (j s i : ℕ) → s < 32 → (l.k ≤ j) ⊎ (i ≢ l.row)
      → g.R.ChangeRows.word l.rows j s i ≡ g.R.ChangeRows.word l.initial.rows j s i;
  kept : g.R.ChangeRows.kept l.rows ≡ g.R.ChangeRows.kept l.initial.rows;
}
