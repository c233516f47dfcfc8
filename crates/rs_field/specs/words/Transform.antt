-- The transform between coefficients in the subspace basis and values.
use Rattle.std.specs.Prelude.{◌≡◌, ℕ, zero, suc, ◌+◌, ◌<◌, bit_xor}
use Rattle.rs_field.specs.words.Field.{product}
use Rattle.rs_field.specs.words.Subspace.{basis}

-- the sum of the values of f at the numbers below n
unfoldable pub sum_below : ℕ → (ℕ → ℕ) → ℕ
sum_below zero f = 0
sum_below (suc n) f = bit_xor (sum_below n f) (f n)

-- word i of the forward transform of f 0, .., f (n - 1) at a shift
unfoldable pub forward : ℕ → ℕ → (ℕ → ℕ) → ℕ → ℕ
forward n shift f i = sum_below n (λ q. product (f q) (basis q (shift + i)))

-- the first `wanted` new words are those of the forward transform of all n old words
abbrev pub IsForward : ℕ → ℕ → ℕ → (ℕ → ℕ) → (ℕ → ℕ) → Type 0
IsForward n wanted shift old new = (i : ℕ) → i < wanted → new i ≡ forward n shift old i

-- the n old words are the forward transform of the n new words
abbrev pub IsBackward : ℕ → ℕ → (ℕ → ℕ) → (ℕ → ℕ) → Type 0
IsBackward n shift old new = (i : ℕ) → i < n → old i ≡ forward n shift new i
