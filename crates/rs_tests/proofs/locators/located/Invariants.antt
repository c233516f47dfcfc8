use Rattle.std.proofs.Common.{◌≡◌, ℕ, ◌<◌, ◌≤◌, get_or}
use Rattle.rs_tests.proofs.locators.located.Given as goal

-- The entries after the marked points are 0.
abbrev pub invariant-loop-y : goal.invariant-loop-y
invariant-loop-y g l = (k : ℕ) → l.fn.end ≤ k → k < 65536 → get_or l.entries k 0 ≡ 0
