use Rattle.std.proofs.Common.{◌≡◌, ℕ, ◌<◌, ◌≤◌}
use Rattle.rs_field.specs.rows.Rows.{chunk}
use Rattle.rs_field.specs.rows.TwoLayers.{at_four_added}
use Rattle.rs_field.specs.rows.Written.{held}
use Rattle.rs_engines.proofs.shuffle_rows.four_rows_written.Given as goal

abbrev pub invariant-loop-k : goal.invariant-loop-k
invariant-loop-k g l = record {
  done : (j s : ℕ) → j < l.k → s < 32
      → at_four_added s (g.D.Butterflies.four (g.F02.Factor.log l.factors.f02) (g.F01.Factor.log l.factors.f01)
      (g.F23.Factor.log l.factors.f23)) (held g.W.WriteWords.writing)
      (chunk l.y.row_0.now j) (chunk l.y.row_1.now j) (chunk l.y.row_2.now j) (chunk l.y.row_3.now j)
      (chunk l.initial.x0 j) (chunk l.initial.x1 j) (chunk l.initial.x2 j) (chunk l.initial.x3 j)
      (chunk l.x0 j) (chunk l.x1 j) (chunk l.x2 j) (chunk l.x3 j);
  rest_0 : (j : ℕ) → l.k ≤ j → chunk l.x0 j ≡ chunk l.initial.x0 j;
  rest_1 : (j : ℕ) → l.k ≤ j → chunk l.x1 j ≡ chunk l.initial.x1 j;
  rest_2 : (j : ℕ) → l.k ≤ j → chunk l.x2 j ≡ chunk l.initial.x2 j;
  rest_3 : (j : ℕ) → l.k ≤ j → chunk l.x3 j ≡ chunk l.initial.x3 j;
}
