use Rattle.std.proofs.Common.{◌≡◌, ℕ, ◌*◌, ◌<◌, ◌≤◌}
use Rattle.rs_field.specs.rows.Rows.{symbol}
use Rattle.rs_field.specs.words.Field.{product}
use Rattle.rs_field.specs.words.Products.{IsNibbles}
use Rattle.rs_engines.proofs.engine_nosimd.mul_chunk.Given as goal

abbrev pub invariant-loop-i : goal.invariant-loop-i
invariant-loop-i l = record {
  done : (f k : ℕ) → IsNibbles f l.lists → k < 2 * l.i → symbol l.c k ≡ product (symbol l.initial.c k) f;
  rest : (k : ℕ) → 2 * l.i ≤ k → k < 32 → symbol l.c k ≡ symbol l.initial.c k;
}
