use Rattle.std.proofs.Common.{◌≡◌, ℕ, ◌-◌, ◌/◌, ◌%◌, ◌<◌, ◌≤◌}
use Rattle.rs_field.specs.words.StepBounds.{CountsRows}
use Rattle.rs_field.specs.rows.View.{word}
use Rattle.rs_rate.proofs.passes.restoring_rows.are_zero_rows.Given as goal

abbrev pub invariant-loop-i : goal.invariant-loop-i
invariant-loop-i l = record {
  zero : (i j : ℕ) → l.first ≤ i → i < l.i → j < l.shard_bytes / 2 → word l.rows (j / 32) (j % 32) i ≡ 0;
  counts : CountsRows (l.i - l.first) l.initial.steps l.steps;
}
