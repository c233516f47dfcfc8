use Rattle.std.proofs.Common.{◌≡◌, ℕ, ◌<◌, ◌≤◌, bit_xor}
use Rattle.rs_field.specs.rows.Rows.{symbol, chunk}
use Rattle.rs_field.specs.words.Tables.{times_factor}
use Rattle.rs_engines.proofs.shuffle_rows.add_chunk_pairs.Given as goal

abbrev pub invariant-loop-k : goal.invariant-loop-k
invariant-loop-k g l = record {
  done : (j s : ℕ) → j < l.k → s < 32
      → symbol (chunk l.x j) s
      ≡ bit_xor (bit_xor (symbol (chunk l.initial.x j) s)
      (times_factor (g.F.Factor.log l.f0) (symbol (chunk l.y0 j) s)))
      (times_factor (g.F.Factor.log l.f1) (symbol (chunk l.y1 j) s));
  rest : (j : ℕ) → l.k ≤ j → chunk l.x j ≡ chunk l.initial.x j;
}
