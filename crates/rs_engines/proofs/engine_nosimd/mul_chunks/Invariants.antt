use Rattle.std.proofs.Common.{◌≡◌, ℕ, ◌<◌, ◌≤◌}
use Rattle.rs_field.specs.rows.Rows.{symbol, chunk}
use Rattle.rs_field.specs.words.Field.{product}
use Rattle.rs_field.specs.words.Products.{IsNibbles}
use Rattle.rs_engines.proofs.engine_nosimd.mul_chunks.Given as goal

abbrev pub invariant-loop-k : goal.invariant-loop-k
invariant-loop-k l = record {
  done : (f j s : ℕ) → IsNibbles f l.lists → j < l.k → s < 32
      → symbol (chunk l.x j) s ≡ product (symbol (chunk l.initial.x j) s) f;
  rest : (j : ℕ) → l.k ≤ j → chunk l.x j ≡ chunk l.initial.x j;
}
