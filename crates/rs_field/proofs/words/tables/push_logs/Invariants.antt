use Rattle.std.proofs.Common.{◌≡◌, ℕ, ◌+◌, ◌*◌, ◌/◌, ◌%◌, ◌<◌, get_or, vec_len}
use Rattle.rs_field.specs.words.Walsh.{log_or_zero}
use Rattle.rs_field.proofs.words.tables.push_logs.Given as goal

abbrev pub invariant-loop-z : goal.invariant-loop-z
invariant-loop-z l = record {
  length : vec_len l.table ≡ vec_len l.initial.table + l.z;
  before : (i : ℕ) → i < vec_len l.initial.table → get_or l.table.items i 0 ≡ get_or l.initial.table.items i 0;
  entries : (y : ℕ) → y < l.z
      → get_or l.table.items (vec_len l.initial.table + y) 0 % 65535 ≡ 65536 / l.points * log_or_zero y % 65535;
}
