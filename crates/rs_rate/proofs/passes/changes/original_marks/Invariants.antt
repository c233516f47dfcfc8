use Rattle.std.proofs.Common.{◌≡◌, ℕ, ◌<◌, ◌≤◌, ◌⊎◌, true, false, vec_len}
use Rattle.rs_field.specs.code.Frame.{original_row, row_count}
use Rattle.rs_field.specs.rows.MarkedRows.{is_marked}
use Rattle.rs_rate.proofs.passes.changes.original_marks.Given as goal

abbrev pub invariant-loop-i : goal.invariant-loop-i
invariant-loop-i l = record {
  length : vec_len l.marks ≡ row_count l.counts.frame;
  own : (j : ℕ) → j < l.i → is_marked l.marks.items (original_row l.counts.frame j) ≡ true;
  others : (p : ℕ) → (p < l.counts.frame.originals_from) ⊎ (original_row l.counts.frame l.i ≤ p) → is_marked
      l.marks.items p ≡ false;
}
