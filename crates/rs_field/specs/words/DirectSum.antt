-- The word at an erased point as a direct sum over the received points. At a received point, the locator is the
-- logarithm of the value of the polynomial with a root at each erased point. At an erased point, it is the logarithm of
-- the value of the derivative of this polynomial.
use Rattle.std.specs.Prelude.{ℕ, ◌+◌, ◌-◌, ◌%◌, Bool, if◌then◌else◌, bit_xor}
use Rattle.rs_field.specs.words.Field.{product, power, log}
use Rattle.rs_field.specs.words.Transform.{sum_below}

-- the logarithm, below 65535, of the factor that the word at the point x has in the word at the erased point y
abbrev pub direct_factor : (ℕ → ℕ) → ℕ → ℕ → ℕ
direct_factor locator x y = (locator x + (65535 - log (bit_xor x y)) + (65535 - locator y)) % 65535

-- the word at the point x times its factor in the word at the erased point y, or 0 if x is not received
abbrev pub direct_term : (ℕ → Bool) → (ℕ → ℕ) → (ℕ → ℕ) → ℕ → ℕ → ℕ
direct_term received locator words y x =
    if received x then product (words x) (power (direct_factor locator x y)) else 0

-- the sum of the terms of the received points below n
unfoldable pub direct_sum : ℕ → (ℕ → Bool) → (ℕ → ℕ) → (ℕ → ℕ) → ℕ → ℕ
direct_sum n received locator words y = sum_below n (direct_term received locator words y)
