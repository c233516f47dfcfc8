-- Laws of the counts: the ranges that the default rate supports.
use Rattle.std.specs.Prelude.{◌≡◌, ℕ, ◌+◌, ◌^◌, ◌<◌, ◌≤◌, ◌⊎◌, true}
use Rattle.rs_field.specs.code.Counts.{default_rate, supports}

-- for some n, one count is at most 2 ^ n and the other count is at most 65536 - 2 ^ n
abbrev pub AreBeside : ℕ → ℕ → Type 0
AreBeside few many = (n : ℕ) × (few ≤ 2 ^ n) × (many + 2 ^ n ≤ 65536)

-- the default rate supports any two counts from 1 to 32768, any positive counts of which one is at most 2 ^ n and the
-- other at most 65536 - 2 ^ n, and no other counts
pub record SupportsRanges : Type 0 where
  pub half : (k r : ℕ) → 0 < k → k ≤ 32768 → 0 < r → r ≤ 32768 → supports default_rate k r ≡ true
  pub few_originals : (n k r : ℕ) → 0 < k → k ≤ 2 ^ n → 0 < r → r + 2 ^ n ≤ 65536 → supports default_rate k r ≡ true
  pub few_recovery : (n k r : ℕ) → 0 < k → k + 2 ^ n ≤ 65536 → 0 < r → r ≤ 2 ^ n → supports default_rate k r ≡ true
  pub no_others : (k r : ℕ) → supports default_rate k r ≡ true → (0 < k) × (0 < r) × (AreBeside k r ⊎ AreBeside r k)
