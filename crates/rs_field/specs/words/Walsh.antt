-- The Walsh-Hadamard transform modulo 65535. Minus one is 65534.
use Rattle.std.specs.Prelude.{◌≡◌, ℕ, zero, suc, ◌+◌, ◌-◌, ◌*◌, ◌/◌, ◌%◌, ◌<◌, ◌==◌, if◌then◌else◌, List, slice_index}
use Rattle.std.specs.Prelude.{bit_and, count_ones}
use Rattle.rs_field.specs.words.Field.{log}

-- the sum of g y over the numbers y below n
unfoldable pub total : ℕ → (ℕ → ℕ) → ℕ
total zero g = 0
total (suc n) g = total n g + g n

-- minus one if `w AND y` has an odd number of set bits, else one
unfoldable pub sign : ℕ → ℕ → ℕ
sign w y = if count_ones (bit_and w y) % 2 == 1 then 65534 else 1

-- the sum of the values f y for y below n, each times the sign of w and y
abbrev pub signed_sum : ℕ → (ℕ → ℕ) → ℕ → ℕ
signed_sum n f w = total n (λ y. sign w y * f y)

-- each of the n new values is, modulo 65535, the signed sum of all n old values
abbrev pub IsWalsh : ℕ → (ℕ → ℕ) → (ℕ → ℕ) → Type 0
IsWalsh n old new = (w : ℕ) → w < n → new w % 65535 ≡ signed_sum n old w % 65535

-- two layers of sums and differences, modulo 65535: w is the sum and y the difference of a + b and c + d, and x is the
-- sum
-- and z the difference of a - b and c - d
abbrev pub IsFourSums : ℕ → ℕ → ℕ → ℕ → ℕ → ℕ → ℕ → ℕ → Type 0
IsFourSums a b c d w x y z =
    (w % 65535 ≡ (a + b + (c + d)) % 65535) × (x % 65535 ≡ (a + 65534 * b + (c + 65534 * d)) % 65535)
    × (y % 65535 ≡ (a + b + 65534 * (c + d)) % 65535) × (z % 65535 ≡ (a + 65534 * b + 65534 * (c + 65534 * d)) % 65535)

-- for each pair of the 16 old entries at this distance, the new entries are the sum and the difference of the pair,
-- modulo 65535
abbrev pub IsLayer : ℕ → List ℕ → List ℕ → Type 0
IsLayer distance old new =
    (k : ℕ) → k < 16 → slice_index new k % 65535
    ≡ (if k / distance % 2 == 0 then slice_index old (k + distance) + slice_index old k else slice_index old
    (k - distance) + 65534 * slice_index old k) % 65535

-- the logarithm of a word, or 0 for the word 0
unfoldable pub log_or_zero : ℕ → ℕ
log_or_zero z = if z == 0 then 0 else log z
