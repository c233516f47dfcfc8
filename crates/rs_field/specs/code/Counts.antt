-- The counts that each rate supports, and which of the two rates the default rate is.
use Rattle.std.specs.Prelude.{ℕ, ◌+◌, ◌^◌, min, max, Bool, true, false, ◌&&◌, ◌||◌, ◌==◌, nat_lt, nat_le}
use Rattle.rs_field.specs.words.Search.{first_below}

-- the three rates; for each pair of counts, the default rate is the low rate or the high rate
pub data Rate : Type 0 where
  low_rate : Rate
  high_rate : Rate
  default_rate : Rate

-- the exponent of the least power of two that is not below n, for n up to 2 ^ 64
unfoldable pub exponent_of : ℕ → ℕ
exponent_of n = first_below 64 (λ d. nat_le n (2 ^ d))

-- the least power of two that is not below n, for n up to 2 ^ 64
unfoldable pub next_power : ℕ → ℕ
next_power n = 2 ^ exponent_of n

-- whether a rate supports k originals with r recovery shards
unfoldable pub supports : Rate → ℕ → ℕ → Bool
supports low_rate k r = nat_lt 0 k && nat_lt 0 r && nat_le (next_power k + r) 65536
supports high_rate k r = nat_lt 0 k && nat_lt 0 r && nat_le (next_power r + k) 65536
supports default_rate k r = nat_lt 0 k && nat_lt 0 r && nat_le (min (next_power k) (next_power r) + max k r) 65536

-- whether a rate is the low rate for these counts; the default rate is the low rate if the power of k is below the
-- power of r, or if these are equal and k is above r
unfoldable pub is_low : Rate → ℕ → ℕ → Bool
is_low low_rate k r = true
is_low high_rate k r = false
is_low default_rate k r = nat_lt (next_power k) (next_power r) || (next_power k == next_power r && nat_lt r k)
