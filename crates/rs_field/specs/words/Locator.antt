-- The locator of marked points, as sums of logarithms.
use Rattle.std.specs.Prelude.{◌≡◌, ℕ, zero, suc, ◌+◌, ◌*◌, ◌%◌, ◌<◌, ◌≤◌, ◌==◌, if◌then◌else◌, bit_xor}
use Rattle.rs_field.specs.words.Field.{nth_power, power, log}
use Rattle.rs_field.specs.words.Subspace.{product_below}

-- the sum of e y * log (x + y) over the points y below n other than x
unfoldable pub log_sum : ℕ → (ℕ → ℕ) → ℕ → ℕ
log_sum zero e x = 0
log_sum (suc y) e x = log_sum y e x + (if x == y then 0 else e y * log (bit_xor x y))

-- each of the first n new entries is, modulo 65535, the `log_sum` of the first n old entries
abbrev pub IsLocatorBelow : ℕ → (ℕ → ℕ) → (ℕ → ℕ) → Type 0
IsLocatorBelow n old new = (x : ℕ) → x < n → new x % 65535 ≡ log_sum n old x % 65535

-- the locator over all 65536 points
abbrev pub IsLocator : (ℕ → ℕ) → (ℕ → ℕ) → Type 0
IsLocator old new = IsLocatorBelow 65536 old new

-- `log_sum` is the logarithm of the product of all (x + y) to the power e y, over the points y below n other than x
abbrev pub LocatesByProduct : Type 0
LocatesByProduct =
    (n : ℕ) (e : ℕ → ℕ) (x : ℕ) → n ≤ 65536 → x < 65536
    → power (log_sum n e x) ≡ product_below n (λ y. if x == y then 1 else nth_power (bit_xor x y) (e y))
