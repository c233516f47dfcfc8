use Rattle.std.proofs.Common.{◌≡◌, ℕ, ◌<◌, [], slice_index, length}
use Rattle.rs_rate.specs.rows.Marks.{erasure}
use Rattle.rs_rate.proofs.passes.locators.mark_unknown.Given as goal

abbrev pub invariant-loop-row : goal.invariant-loop-row
invariant-loop-row l = record {
  entries : length l.entries ≡ length l.initial.entries;
  marked : (y : ℕ) → y < l.row → slice_index l.entries y ≡ erasure l.frame [] y;
}
