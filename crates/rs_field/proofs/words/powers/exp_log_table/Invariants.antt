use Rattle.std.proofs.Common.{◌≡◌, ℕ, ◌<◌, length, get_or}
use Rattle.rs_field.specs.words.Field.{power}
use Rattle.rs_field.proofs.words.powers.exp_log_table.Given as goal

abbrev pub invariant-loop-n : goal.invariant-loop-n
invariant-loop-n l = record {
  exp_length : length l.exp.items ≡ 65536;
  log_length : length l.log.items ≡ 65536;
  at : l.z ≡ power l.n;
  exp_so_far : (k : ℕ) → k < l.n → get_or l.exp.items k 0 ≡ power k;
  log_so_far : (k : ℕ) → k < l.n → get_or l.log.items (power k) 0 ≡ k;
  log_zero : get_or l.log.items 0 0 ≡ 65535;
}
