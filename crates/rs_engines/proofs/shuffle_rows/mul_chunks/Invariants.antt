use Rattle.std.proofs.Common.{◌≡◌, ℕ, ◌<◌, ◌≤◌}
use Rattle.rs_field.specs.rows.Rows.{symbol, chunk}
use Rattle.rs_field.specs.words.Field.{product}
use Rattle.rs_field.specs.words.Products.{IsNibbleBytes}
use Rattle.rs_engines.proofs.shuffle_rows.mul_chunks.Given as goal

abbrev pub invariant-loop-k : goal.invariant-loop-k
invariant-loop-k g l = record {
  done : (f j s : ℕ) → IsNibbleBytes f l.factor → j < l.k → s < 32
      → symbol (chunk l.x j) s ≡ product (symbol (chunk l.initial.x j) s) f;
  rest : (j : ℕ) → l.k ≤ j → chunk l.x j ≡ chunk l.initial.x j;
}
