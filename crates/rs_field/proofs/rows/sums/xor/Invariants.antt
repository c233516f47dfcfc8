use Rattle.std.proofs.Common.{◌≡◌, ℕ, ◌<◌, ◌≤◌, get_or, bit_xor}
use Rattle.rs_field.specs.rows.Rows.{chunk, symbol}
use Rattle.rs_field.proofs.rows.sums.xor.Given as goal

abbrev pub invariant-loop-k : goal.invariant-loop-k
invariant-loop-k l = record {
  bytes : (j i : ℕ) → j < l.k → i < 64
      → get_or (chunk l.xs j) i 0 ≡ bit_xor (get_or (chunk l.initial.xs j) i 0) (get_or (chunk l.ys j) i 0);
  symbols : (j s : ℕ) → j < l.k → s < 32
      → symbol (chunk l.xs j) s ≡ bit_xor (symbol (chunk l.initial.xs j) s) (symbol (chunk l.ys j) s);
  rest : (j : ℕ) → l.k ≤ j → chunk l.xs j ≡ chunk l.initial.xs j;
}
