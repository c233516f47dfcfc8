use Rattle.std.proofs.Common.{◌≡◌, ℕ, ◌<◌, ◌≤◌, bit_xor}
use Rattle.rs_field.specs.rows.Rows.{symbol}
use Rattle.rs_field.specs.words.Field.{product, power}
use Rattle.rs_field.proofs.rows.engine_naive.mul_add_chunk.Given as goal

abbrev pub invariant-loop-s : goal.invariant-loop-s
invariant-loop-s l = record {
  done : (k : ℕ) → k < l.s → symbol l.x k ≡ bit_xor (symbol l.initial.x k) (product (symbol l.y k) (power l.log_m));
  rest : (k : ℕ) → l.s ≤ k → k < 32 → symbol l.x k ≡ symbol l.initial.x k;
}
