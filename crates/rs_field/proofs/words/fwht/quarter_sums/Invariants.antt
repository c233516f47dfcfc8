use Rattle.std.proofs.Common.{◌≡◌, ℕ, ◌*◌, ◌<◌, ◌≤◌, get_or}
use Rattle.rs_field.specs.words.StepBounds.{CountsPairs}
use Rattle.rs_field.specs.words.Walsh.{IsFourSums}
use Rattle.rs_field.proofs.words.fwht.quarter_sums.Given as goal

abbrev pub invariant-loop-i : goal.invariant-loop-i
invariant-loop-i l = record {
  sums : (k : ℕ) → k < l.i
      → IsFourSums (get_or l.initial.x0 k 0) (get_or l.initial.x1 k 0) (get_or l.initial.x2 k 0)
      (get_or l.initial.x3 k 0)
      (get_or l.x0 k 0) (get_or l.x1 k 0) (get_or l.x2 k 0) (get_or l.x3 k 0);
  rest0 : (k : ℕ) → l.i ≤ k → get_or l.x0 k 0 ≡ get_or l.initial.x0 k 0;
  rest1 : (k : ℕ) → l.i ≤ k → get_or l.x1 k 0 ≡ get_or l.initial.x1 k 0;
  rest2 : (k : ℕ) → l.i ≤ k → get_or l.x2 k 0 ≡ get_or l.initial.x2 k 0;
  rest3 : (k : ℕ) → l.i ≤ k → get_or l.x3 k 0 ≡ get_or l.initial.x3 k 0;
  counts : CountsPairs (4 * l.i) l.initial.steps l.steps;
}
