use Rattle.std.proofs.Common.{◌≡◌, ℕ, ◌-◌, ◌≤◌, ◌<◌, true, false}
use Rattle.rs_field.specs.rows.MarkedRows.{is_marked}
use Rattle.rs_field.proofs.rows.marked_rows.marked_end.Given as goal

abbrev pub invariant-loop-i : goal.invariant-loop-i
invariant-loop-i l = record {
  within : l.end ≤ l.i;
  past : (r : ℕ) → l.end ≤ r → r < l.i → is_marked l.fn.marks r ≡ false;
  last : 0 < l.end → is_marked l.fn.marks (l.end - 1) ≡ true;
}
