use Rattle.std.proofs.Common.{◌≡◌, ℕ, ◌<◌, ◌≤◌}
use Rattle.rs_field.specs.rows.Rows.{chunk}
use Rattle.rs_field.specs.rows.Pairs.{at_two_added}
use Rattle.rs_field.specs.rows.Written.{held}
use Rattle.rs_engines.proofs.shuffle_rows.two_rows_written.Given as goal

abbrev pub invariant-loop-k : goal.invariant-loop-k
invariant-loop-k g l = record {
  done : (j s : ℕ) → j < l.k → s < 32
      → at_two_added s (g.D.Butterflies.two (g.F.Factor.log l.factor)) (held g.W.WriteWords.writing)
      (chunk l.y0 j) (chunk l.y1 j) (chunk l.initial.x0 j) (chunk l.initial.x1 j) (chunk l.x0 j) (chunk l.x1 j);
  rest_0 : (j : ℕ) → l.k ≤ j → chunk l.x0 j ≡ chunk l.initial.x0 j;
  rest_1 : (j : ℕ) → l.k ≤ j → chunk l.x1 j ≡ chunk l.initial.x1 j;
}
