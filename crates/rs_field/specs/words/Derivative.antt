-- The derivative of a polynomial that is given in the subspace basis.
use Rattle.std.specs.Prelude.{◌≡◌, ℕ, List, ◌<◌, length, bit_xor}
use Rattle.rs_field.specs.words.Polynomial.{AreWords, value, derivative_value}
use Rattle.rs_field.specs.words.Transform.{forward}

-- the n words f are the coefficients in the subspace basis of the polynomial p: both have the same value at each word
abbrev pub IsInBasis : ℕ → (ℕ → ℕ) → List ℕ → Type 0
IsInBasis n f p = (x : ℕ) → x < 65536 → forward n 0 f x ≡ value p x

-- the n old words are the coefficients of a polynomial in the subspace basis, and the n new words are those of this
-- polynomial plus its derivative
abbrev pub IsDerivativeAdded : ℕ → (ℕ → ℕ) → (ℕ → ℕ) → Type 0
IsDerivativeAdded n old new =
    (p : List ℕ) → length p ≡ n → AreWords p → IsInBasis n old p
    → (x : ℕ) → x < 65536 → forward n 0 new x ≡ bit_xor (value p x) (derivative_value p x)
