use Rattle.std.proofs.Common.{◌≡◌, ◌<◌, ◌-◌, ◌+◌, ◌*◌, ◌^◌, ℕ, get_or, length}
use Rattle.rs_field.specs.words.Subspace.{subspace}
use Rattle.rs_field.specs.words.Tables.{log_or_mark}
use Rattle.rs_field.proofs.words.tables.skew_table.Given as goal

abbrev pub invariant-loop-i : goal.invariant-loop-i
invariant-loop-i l = record {
  size : length l.table.items ≡ l.i;
  so_far : (d u j : ℕ) → j ≡ (2 * u + 1) * 2 ^ d → j < l.i + 1
      → get_or l.table.items (j - 1) 0 ≡ log_or_mark (subspace d (j - 2 ^ d));
}
