-- Polynomials over the field. A list of n words represents a polynomial of degree below n. The first word is the lowest
-- coefficient.
use Rattle.std.specs.Prelude.{ℕ, List, [], ◌∷◌, ◌<◌, All, bit_xor}
use Rattle.rs_field.specs.words.Field.{product}

-- every entry of a list is a word
abbrev pub AreWords : List ℕ → Type 0
AreWords ws = All (λ w. w < 65536) ws

-- the value at x of the polynomial with these coefficients: Horner's rule
unfoldable pub value : List ℕ → ℕ → ℕ
value [] x = 0
value (c ∷ cs) x = bit_xor c (product x (value cs x))

-- the value at x of the derivative of the polynomial with these coefficients: by the product rule, the derivative of c
-- + x Q is Q plus x times the derivative of Q
unfoldable pub derivative_value : List ℕ → ℕ → ℕ
derivative_value [] x = 0
derivative_value (c ∷ cs) x = bit_xor (value cs x) (product x (derivative_value cs x))
