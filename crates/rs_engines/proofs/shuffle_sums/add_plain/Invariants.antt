use Rattle.std.proofs.Common.{◌≡◌, ◌⊎◌, ℕ, ◌+◌, ◌*◌, ◌<◌, ◌≤◌, bit_xor}
use Rattle.rs_field.specs.words.Tables.{times_factor}
use Rattle.rs_engines.proofs.shuffle_sums.add_plain.Given as goal

-- The row was added to the pairs of rows before this pair.
abbrev pub invariant-loop-pair : goal.invariant-loop-pair
invariant-loop-pair g l = record {
  done : (k s d : ℕ) → k < g.A.ReadRows.row_len l.logs.added.now → s < 32 → l.at ≤ d → d < l.at + 2 * l.pair
      → g.R.ChangeRows.word l.rows k s d
      ≡ bit_xor (g.R.ChangeRows.word l.initial.rows k s d)
      (times_factor (g.A.AddedRows.log l.logs.added.now l.logs.index d)
      (g.A.ReadRows.word l.logs.added.now k s l.logs.index));
  others : (k s d : ℕ) → s < 32
      → (g.A.ReadRows.row_len l.logs.added.now ≤ k) ⊎ ((d < l.at) ⊎ (l.at + 2 * l.pair ≤ d))
      → g.R.ChangeRows.word l.rows k s d ≡ g.R.ChangeRows.word l.initial.rows k s d;
  kept : g.R.ChangeRows.kept l.rows ≡ g.R.ChangeRows.kept l.initial.rows;
}
