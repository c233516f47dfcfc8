use Rattle.std.proofs.Common.{◌≡◌, ◌⊎◌, ℕ, ◌<◌, ◌≤◌, bit_xor}
use Rattle.rs_field.specs.rows.AddedRows.{row_sum}
use Rattle.rs_engines.proofs.shuffle_sums.sum_rows.Given as goal

-- The rows before this one were added.
abbrev pub invariant-loop-index : goal.invariant-loop-index
invariant-loop-index g l = record {
  done : (k s d : ℕ) → k < g.A.ReadRows.row_len l.added → s < 32 → l.at ≤ d → d < l.next
      → g.W.Basis.value (g.R.ChangeRows.word l.rows k s d)
      ≡ bit_xor (g.W.Basis.value (g.R.ChangeRows.word l.initial.rows k s d))
      (row_sum l.index (λ i. g.A.AddedRows.log l.added i d) (g.A.ReadRows.word l.added k s));
  others : (k s d : ℕ) → s < 32 → (g.A.ReadRows.row_len l.added ≤ k) ⊎ ((d < l.at) ⊎ (l.next ≤ d))
      → g.R.ChangeRows.word l.rows k s d ≡ g.R.ChangeRows.word l.initial.rows k s d;
  kept : g.R.ChangeRows.kept l.rows ≡ g.R.ChangeRows.kept l.initial.rows;
}
