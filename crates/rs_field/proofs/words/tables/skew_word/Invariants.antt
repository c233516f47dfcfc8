use Rattle.std.proofs.Common.{◌≡◌, ◌<◌, ◌*◌, ◌^◌, ◌+◌, ℕ}
use Rattle.rs_field.proofs.words.tables.skew_word.Given as goal

-- The remaining number is the odd factor times a smaller power of two.
abbrev pub invariant-loop-odd : goal.invariant-loop-odd
invariant-loop-odd l = record {
  positive : 0 < l.odd;
  factor : (d : ℕ) → (u : ℕ) → l.fn.j ≡ (2 * u + 1) * 2 ^ d → (e : ℕ) × (l.odd ≡ (2 * u + 1) * 2 ^ e);
}

abbrev pub decreases-loop-odd : goal.decreases-loop-odd
decreases-loop-odd l = l.odd
