use Rattle.std.proofs.Common.{◌≡◌, ℕ, ◌<◌, ◌≤◌, slice_index, length}
use Rattle.std.specs.Prelude.{if◌then◌else◌}
use Rattle.rs_field.specs.rows.MarkedRows.{is_marked}
use Rattle.rs_rate.proofs.passes.locators.clear_given.Given as goal

abbrev pub invariant-loop-row : goal.invariant-loop-row
invariant-loop-row l = record {
  entries : length l.entries ≡ length l.initial.entries;
  done : (y : ℕ) → y < l.row
      → slice_index l.entries y ≡ (if is_marked l.given y then 0 else slice_index l.initial.entries y);
  rest : (y : ℕ) → l.row ≤ y → slice_index l.entries y ≡ slice_index l.initial.entries y;
}
