use Rattle.std.proofs.Common.{◌≡◌, ◌≢◌, ◌⊎◌, ℕ, ◌<◌, ◌≤◌, bit_xor}
use Rattle.rs_field.specs.rows.Changed.{change_word}
use Rattle.rs_field.specs.words.StepBounds.{ChangeCounts}
use Rattle.rs_field.specs.words.Tables.{times_factor}
use Rattle.rs_field.proofs.rows.row_changes.change_row.Given as goal

abbrev pub invariant-loop-k : goal.invariant-loop-k
invariant-loop-k g l = record {
  here : (j s : ℕ) → j < l.k → s < 32
      → g.R.ChangeRows.word l.rows j s l.row
      ≡ bit_xor (g.R.ChangeRows.word l.initial.rows j s l.row) (times_factor l.log_m (change_word l.change j s));
  others : (j s i : ℕ) → s < 32 → (l.k ≤ j) ⊎ (i ≢ l.row)
      → g.R.ChangeRows.word l.rows j s i ≡ g.R.ChangeRows.word l.initial.rows j s i;
  kept : g.R.ChangeRows.kept l.rows ≡ g.R.ChangeRows.kept l.initial.rows;
  counts : ChangeCounts l.k l.initial.steps l.steps;
}
