use Rattle.std.proofs.Common.{◌≡◌, ◌⊎◌, ℕ, ◌<◌, ◌≤◌}
use Rattle.rs_engines.specs.Twisted.{twisted}
use Rattle.rs_engines.proofs.twisted_rows.twist_rows.Given as goal

abbrev pub invariant-loop-row : goal.invariant-loop-row
invariant-loop-row g l = record {
  done : (k s i : ℕ) → k < l.len → s < 32 → l.from ≤ i → i < l.row
      → g.R.ChangeRows.word l.rows k s i ≡ twisted (g.R.ChangeRows.word l.initial.rows k s i);
  back : (k s i : ℕ) → k < l.len → s < 32 → l.from ≤ i → i < l.row
      → twisted (g.R.ChangeRows.word l.rows k s i) ≡ g.R.ChangeRows.word l.initial.rows k s i;
  others : (k s i : ℕ) → s < 32 → (l.len ≤ k) ⊎ ((i < l.from) ⊎ (l.row ≤ i))
      → g.R.ChangeRows.word l.rows k s i ≡ g.R.ChangeRows.word l.initial.rows k s i;
  kept : g.R.ChangeRows.kept l.rows ≡ g.R.ChangeRows.kept l.initial.rows;
}
