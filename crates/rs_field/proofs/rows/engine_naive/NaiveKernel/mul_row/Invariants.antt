use Rattle.std.proofs.Common.{◌≡◌, ℕ, ◌<◌, ◌≤◌}
use Rattle.rs_field.specs.rows.Rows.{symbol, chunk}
use Rattle.rs_field.specs.words.Field.{product, power}
use Rattle.rs_field.proofs.rows.engine_naive.NaiveKernel.mul_row.Given as goal

abbrev pub invariant-loop-k : goal.invariant-loop-k
invariant-loop-k l = record {
  done : (j s : ℕ) → j < l.k → s < 32
      → symbol (chunk l.x j) s ≡ product (symbol (chunk l.initial.x j) s) (power l.log_m);
  rest : (j : ℕ) → l.k ≤ j → chunk l.x j ≡ chunk l.initial.x j;
}
