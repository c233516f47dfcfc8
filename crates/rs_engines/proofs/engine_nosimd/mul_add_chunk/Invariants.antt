use Rattle.std.proofs.Common.{◌≡◌, ℕ, ◌*◌, ◌<◌, ◌≤◌, bit_xor}
use Rattle.rs_field.specs.rows.Rows.{symbol}
use Rattle.rs_field.specs.words.Field.{product}
use Rattle.rs_field.specs.words.Products.{IsNibbles}
use Rattle.rs_engines.proofs.engine_nosimd.mul_add_chunk.Given as goal

abbrev pub invariant-loop-i : goal.invariant-loop-i
invariant-loop-i l = record {
  done : (f k : ℕ) → IsNibbles f l.lists → k < 2 * l.i
      → symbol l.x k ≡ bit_xor (symbol l.initial.x k) (product (symbol l.y k) f);
  rest : (k : ℕ) → 2 * l.i ≤ k → k < 32 → symbol l.x k ≡ symbol l.initial.x k;
}
