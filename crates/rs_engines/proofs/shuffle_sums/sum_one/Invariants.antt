use Rattle.std.proofs.Common.{◌≡◌, ◌≢◌, ◌⊎◌, ℕ, ◌*◌, ◌<◌, ◌≤◌, bit_xor}
use Rattle.rs_field.specs.rows.AddedRows.{row_sum}
use Rattle.rs_engines.proofs.shuffle_sums.sum_one.Given as goal

-- The pairs of rows before this pair were added.
abbrev pub invariant-loop-pair : goal.invariant-loop-pair
invariant-loop-pair g l = record {
  done : (k s : ℕ) → k < g.A.ReadRows.row_len l.added → s < 32
      → g.R.ChangeRows.word l.rows k s l.at
      ≡ bit_xor (g.R.ChangeRows.word l.initial.rows k s l.at)
      (row_sum (2 * l.pair) (λ i. g.A.AddedRows.log l.added i l.at) (g.A.ReadRows.word l.added k s));
  others : (k s i : ℕ) → s < 32 → (g.A.ReadRows.row_len l.added ≤ k) ⊎ (i ≢ l.at)
      → g.R.ChangeRows.word l.rows k s i ≡ g.R.ChangeRows.word l.initial.rows k s i;
  kept : g.R.ChangeRows.kept l.rows ≡ g.R.ChangeRows.kept l.initial.rows;
}
