use Rattle.std.proofs.Common.{◌≡◌, ℕ, ◌<◌, ◌≤◌, bit_xor}
use Rattle.rs_field.specs.rows.Rows.{symbol, chunk}
use Rattle.rs_field.specs.words.Field.{product, power}
use Rattle.rs_field.proofs.rows.engine_naive.mul_add.Given as goal

abbrev pub invariant-loop-k : goal.invariant-loop-k
invariant-loop-k l = record {
  done : (j s : ℕ) → j < l.k → s < 32
      → symbol (chunk l.xs j) s
      ≡ bit_xor (symbol (chunk l.initial.xs j) s) (product (symbol (chunk l.ys j) s) (power l.log_m));
  rest : (j : ℕ) → l.k ≤ j → chunk l.xs j ≡ chunk l.initial.xs j;
}
