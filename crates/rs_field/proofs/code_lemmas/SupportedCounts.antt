-- The meaning of the test whether a rate supports two counts.
use Rattle.std.proofs.Common.{◌≡◌, ℕ, ◌+◌, ◌<◌, ◌≤◌, true, false, min, max, arith}
use Rattle.std.specs.Prelude.{nat_le, nat_lt, ◌&&◌}
use Rattle.rs_field.specs.code.Counts.{low_rate, high_rate, default_rate, next_power, supports, is_low}
use Rattle.std.proofs.lemmas.Grind.{common_steps}

-- The test of two counts and a sum says that the counts are positive and the sum is at most 65536.
fits : (k r n : ℕ) → (nat_lt 0 k && nat_lt 0 r && nat_le n 65536) ≡ true → (0 < k) × (0 < r) × (n ≤ 65536)
fits k r n is = grind (arith, common_steps)

pub low_fits : (k r : ℕ) → supports low_rate k r ≡ true → (0 < k) × (0 < r) × (next_power k + r ≤ 65536)
unfolding supports
low_fits k r is = fits k r (next_power k + r) is

pub high_fits : (k r : ℕ) → supports high_rate k r ≡ true → (0 < k) × (0 < r) × (next_power r + k ≤ 65536)
unfolding supports
high_fits k r is = fits k r (next_power r + k) is

pub default_fits : (k r : ℕ) → supports default_rate k r ≡ true → (0 < k) × (0 < r)
    × (min (next_power k) (next_power r) + max k r ≤ 65536)
unfolding supports
default_fits k r is = fits k r (min (next_power k) (next_power r) + max k r) is

-- If the default rate is the low rate, the power of k is at most the power of r. Otherwise the power of r is at most
-- the power of k.
pub low_powers : (k r : ℕ) → is_low default_rate k r ≡ true → next_power k ≤ next_power r
unfolding is_low
low_powers k r low = grind (arith, common_steps)

pub high_powers : (k r : ℕ) → is_low default_rate k r ≡ false → next_power r ≤ next_power k
unfolding is_low
high_powers k r high = grind (arith, common_steps)
