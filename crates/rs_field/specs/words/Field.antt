-- The field of 65536 elements, in Cantor coordinates. A word is a number below 65536; the sum of two words is
-- `bit_xor`.
use Rattle.std.specs.Prelude.{ℕ, zero, suc, ◌+◌, ◌*◌, ◌/◌, ◌%◌, ◌^◌, ◌==◌, List, [], ◌∷◌, bit_xor}
use Rattle.rs_field.specs.words.Search.{first_below}

-- the XOR of the entries of a list whose bits are set in a word; the lowest bit is that of the first entry
unfoldable pub combine : List ℕ → ℕ → ℕ
combine [] x = 0
combine (b ∷ bs) x = bit_xor (x % 2 * b) (combine bs (x / 2))

-- the polynomials that the words 1, 2, 4, .., 0x8000 represent
unfoldable pub cantor_basis : List ℕ
cantor_basis =
    0x0001 ∷ 0xACCA ∷ 0x3C0E ∷ 0x163E ∷ 0xC582 ∷ 0xED2E ∷ 0x914C ∷ 0x4012
    ∷ 0x6C98 ∷ 0x10D8 ∷ 0x6A72 ∷ 0xB900 ∷ 0xFDB8 ∷ 0xFB34 ∷ 0xFF38 ∷ 0x991E ∷ []

-- the polynomial over the field of two elements that a word represents, as the word of its coefficients
unfoldable pub bits : ℕ → ℕ
bits x = combine cantor_basis x

-- the words whose `bits` are 1, 2, 4, .., 0x8000
unfoldable pub monomials : List ℕ
monomials =
    0x0001 ∷ 0x4690 ∷ 0x65D8 ∷ 0x62D0 ∷ 0x5734 ∷ 0x45F0 ∷ 0x53B8 ∷ 0x1E38
    ∷ 0x7CAE ∷ 0x4E38 ∷ 0x6708 ∷ 0xC25C ∷ 0x7A64 ∷ 0x9EAC ∷ 0x1124 ∷ 0x523A ∷ []

-- the word that has these `bits`
unfoldable pub from_bits : ℕ → ℕ
from_bits v = combine monomials v

-- the product of a number of n bits and another number, in which sums are XOR
unfoldable pub carryless : ℕ → ℕ → ℕ → ℕ
carryless zero a b = 0
carryless (suc n) a b = bit_xor (a % 2 * b) (carryless n (a / 2) (b * 2))

-- the polynomial by which products are reduced, as a number: bit i is the coefficient of degree i
abbrev pub polynomial : ℕ
polynomial = 0x1002D

-- the remainder of a number of 16 + n bits after long division by the polynomial
unfoldable pub reduce : ℕ → ℕ → ℕ
reduce zero p = p
reduce (suc n) p = reduce n (bit_xor p (p / 2 ^ (16 + n) % 2 * (polynomial * 2 ^ n)))

-- the product of two words: the word whose `bits` are the reduced product of the `bits` of the two words
unfoldable pub product : ℕ → ℕ → ℕ
product x y = from_bits (reduce 16 (carryless 16 (bits x) (bits y)))

-- x times itself, n times
unfoldable pub nth_power : ℕ → ℕ → ℕ
nth_power x zero = 1
nth_power x (suc n) = product (nth_power x n) x

-- the word whose `bits` are 2
unfoldable pub generator : ℕ
generator = 0x4690

-- the generator to the power n
unfoldable pub power : ℕ → ℕ
power n = nth_power generator n

-- the logarithm of a word that is not zero: the only n below 65535 whose power is the word
unfoldable pub log : ℕ → ℕ
log z = first_below 65535 (λ n. power n == z)
