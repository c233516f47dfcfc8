use Rattle.std.proofs.Common.{◌≡◌, ℕ, ◌*◌, ◌%◌, ◌<◌, ◌≤◌, get_or}
use Rattle.rs_field.specs.words.StepBounds.{CountsProducts}
use Rattle.rs_field.proofs.words.locating.products.Given as goal

abbrev pub invariant-loop-i : goal.invariant-loop-i
invariant-loop-i l = record {
  products : (k : ℕ) → k < l.i
      → get_or l.entries k 0 % 65535 ≡ get_or l.initial.entries k 0 * get_or l.factors k 0 % 65535;
  rest : (k : ℕ) → l.i ≤ k → get_or l.entries k 0 ≡ get_or l.initial.entries k 0;
  counts : CountsProducts l.i l.initial.steps l.steps;
}
