use Rattle.std.proofs.Common.{◌≡◌, ℕ, ◌<◌, length, get_or}
use Rattle.rs_field.specs.words.Field.{log}
use Rattle.rs_field.proofs.words.logarithms.put_logarithms.Given as goal

abbrev pub invariant-loop-z : goal.invariant-loop-z
invariant-loop-z l = record {
  length : length l.logs ≡ length l.initial.logs;
  done : (y : ℕ) → 0 < y → y < l.z → get_or l.logs y 0 ≡ log y;
}
