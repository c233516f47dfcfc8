use Rattle.std.proofs.Common.{◌≡◌, ◌⊎◌, ℕ, ◌+◌, ◌<◌, ◌≤◌, length, slice_index, bit_xor}
use Rattle.rs_field.specs.words.Tables.{times_factor}
use Rattle.rs_engines.proofs.group_sums.add_to_group.Given as goal

-- The chunks before this one were added.
abbrev pub invariant-loop-k : goal.invariant-loop-k
invariant-loop-k g l = record {
  done : (j s d : ℕ) → j < l.k → s < 32 → d < length (g.G.RowFactors.logs l.group)
      → g.W.Basis.value (g.R.ChangeRows.word l.rows j s (l.at + d))
      ≡ bit_xor (g.W.Basis.value (g.R.ChangeRows.word l.initial.rows j s (l.at + d)))
      (times_factor (slice_index (g.G.RowFactors.logs l.group) d) (g.Y.ReadChunks.word l.added j s));
  rest : (j s i : ℕ) → l.k ≤ j → s < 32
      → g.R.ChangeRows.word l.rows j s i ≡ g.R.ChangeRows.word l.initial.rows j s i;
  others : (j s i : ℕ) → s < 32 → (i < l.at) ⊎ (l.at + length (g.G.RowFactors.logs l.group) ≤ i)
      → g.R.ChangeRows.word l.rows j s i ≡ g.R.ChangeRows.word l.initial.rows j s i;
  kept : g.R.ChangeRows.kept l.rows ≡ g.R.ChangeRows.kept l.initial.rows;
}
