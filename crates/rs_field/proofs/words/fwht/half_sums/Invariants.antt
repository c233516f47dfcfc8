use Rattle.std.proofs.Common.{◌≡◌, ℕ, ◌+◌, ◌*◌, ◌%◌, ◌<◌, ◌≤◌, get_or}
use Rattle.rs_field.specs.words.StepBounds.{CountsPairs}
use Rattle.rs_field.proofs.words.fwht.half_sums.Given as goal

abbrev pub invariant-loop-i : goal.invariant-loop-i
invariant-loop-i l = record {
  sums : (k : ℕ) → k < l.i → get_or l.x0 k 0 % 65535 ≡ (get_or l.initial.x0 k 0 + get_or l.initial.x1 k 0) % 65535;
  differences : (k : ℕ) → k < l.i
      → get_or l.x1 k 0 % 65535 ≡ (get_or l.initial.x0 k 0 + 65534 * get_or l.initial.x1 k 0) % 65535;
  rest0 : (k : ℕ) → l.i ≤ k → get_or l.x0 k 0 ≡ get_or l.initial.x0 k 0;
  rest1 : (k : ℕ) → l.i ≤ k → get_or l.x1 k 0 ≡ get_or l.initial.x1 k 0;
  counts : CountsPairs l.i l.initial.steps l.steps;
}
