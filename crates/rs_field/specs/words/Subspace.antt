-- The subspace polynomials, and the basis that they give.
use Rattle.std.specs.Prelude.{◌≡◌, ℕ, zero, suc, ◌/◌, ◌%◌, ◌^◌, ◌<◌, ◌≤◌, ◌==◌, if◌then◌else◌, bit_xor}
use Rattle.rs_field.specs.words.Field.{product}

-- the product of the values of f at the numbers below n
unfoldable pub product_below : ℕ → (ℕ → ℕ) → ℕ
product_below zero f = 1
product_below (suc n) f = product (product_below n f) (f n)

-- the product of x + y over the words y below 2 ^ d
unfoldable pub subspace : ℕ → ℕ → ℕ
subspace d x = product_below (2 ^ d) (λ y. bit_xor x y)

-- the product of `subspace d x` over the set bits d of the word q
unfoldable pub basis : ℕ → ℕ → ℕ
basis q x = product_below 16 (λ d. if q / 2 ^ d % 2 == 1 then subspace d x else 1)

-- in coordinates `subspace d x` is the word x shifted right by d places
abbrev pub SubspaceIsShift : Type 0
SubspaceIsShift = (d x : ℕ) → d ≤ 16 → x < 65536 → subspace d x ≡ x / 2 ^ d
