-- Words in the other basis: how they are changed into it, and their sums and products.
use Rattle.std.proofs.Common.{◌≡◌, ℕ, ◌+◌, ◌*◌, ◌/◌, ◌%◌, ◌^◌, ◌<◌, Bool, true, eqb, bit_xor, refl, sym, ap, ap₂, ◌∙◌}
use Rattle.std.proofs.Common.{arith, eqb-true, mod-lt, slice_index}
use Rattle.std.proofs.Math.Nat.{zero-div}
use Rattle.std.specs.Int.Bits.{xor_comm, xor_zero_r, xor_mod, xor_shr}
use Rattle.std.proofs.lemmas.Nat.{xor_lt}
use Rattle.rs_field.specs.words.Field.{product, bits, from_bits, carryless, reduce, combine, cantor_basis, monomials}
use Rattle.rs_field.specs.words.Products.{byte_at}
use Rattle.rs_field.proofs.words_lemmas.Halves.{xor_undo}
use Rattle.rs_field.proofs.words_lemmas.Linear.{passes_below, from_passes_below, xor_swap}
use Rattle.rs_field.proofs.words_lemmas.Packed.{sum_of_bytes}
use Rattle.rs_field.proofs.words_lemmas.Product.{product_xor_left, zero_product}
use Rattle.rs_field.proofs.words_lemmas.Total.{product-right_comm}
use Rattle.rs_field.proofs.words_lemmas.Product.{additive_left}
use Rattle.rs_field.specs.declared.words.table_types.Multiply128lutT.{Multiply128lutT}
use Rattle.rs_field.specs.words.Products.{IsNibbleBytes}
use Rattle.rs_engines.proofs.ByBits.{nibble_bytes}
use Rattle.rs_engines.proofs.FourNibbles.{low_additive, byte_of_nibbles}
use Rattle.rs_engines.specs.Additive.{HasAdditiveBytes}
use Rattle.rs_engines.specs.Twisted.{twisted, AreByteProducts}

-- The numbers in which the change of a word is looked up.
abbrev pub of_low_nibbles : ℕ
of_low_nibbles = 0x45458A8AEEEE21216464ABABCFCF0000

abbrev pub of_high_nibbles : ℕ
of_high_nibbles = 0x2FA5B2380882951F30BAAD27179D8A00

-- What is added to the low byte of a word with this high byte.
abbrev pub change : ℕ → ℕ
change h = bit_xor (byte_at of_low_nibbles (h % 16)) (byte_at of_high_nibbles (h / 16))

is_looked_up : ℕ → Bool
is_looked_up h = eqb (product h 256) (change h + 256 * h)

all_looked_up : passes_below 256 is_looked_up ≡ true
unfolding passes_below is_looked_up product bits from_bits carryless reduce combine cantor_basis monomials
all_looked_up = refl

-- The product of a byte and the word 256 has the byte as its high byte.
pub byte_times_256 : (h : ℕ) → h < 256 → product h 256 ≡ change h + 256 * h
unfolding is_looked_up
byte_times_256 h small = eqb-true _ _ (from_passes_below 256 is_looked_up all_looked_up h small)

-- The two numbers have the low bytes of products with the word 256.
are_low_bytes : (n t : ℕ) → ℕ → Bool
are_low_bytes n t p = eqb (byte_at t p) (product (p * 16 ^ n) 256 % 256)

low_bytes : passes_below 16 (are_low_bytes 0 of_low_nibbles) ≡ true
unfolding passes_below are_low_bytes product bits from_bits carryless reduce combine cantor_basis monomials
low_bytes = refl

high_bytes : passes_below 16 (are_low_bytes 1 of_high_nibbles) ≡ true
unfolding passes_below are_low_bytes product bits from_bits carryless reduce combine cantor_basis monomials
high_bytes = refl

additive_number : (n t : ℕ) → n < 4 → passes_below 16 (are_low_bytes n t) ≡ true → HasAdditiveBytes t
unfolding are_low_bytes
additive_number n t few all =
    nibble_bytes (λ x. product x 256 % 256) (low_additive 256) t n few
    (λ p hp. eqb-true _ _ (from_passes_below 16 (are_low_bytes n t) all p hp))

pub low_numbers_additive : HasAdditiveBytes of_low_nibbles
low_numbers_additive = additive_number 0 of_low_nibbles (omega arith) low_bytes

pub high_numbers_additive : HasAdditiveBytes of_high_nibbles
high_numbers_additive = additive_number 1 of_high_nibbles (omega arith) high_bytes

-- If the products of nibbles have no high byte, the numbers of their low bytes have the products.
pub byte_products : (f : ℕ) (entry : Multiply128lutT) → IsNibbleBytes f entry → slice_index entry.hi 0 ≡ 0
    → slice_index entry.hi 1 ≡ 0 → AreByteProducts f (slice_index entry.lo 0) (slice_index entry.lo 1)
byte_products f entry are first second = record {
  of_low = λ i h.
      let byte = are.lo.low 0 i (omega arith) h in
      let none = sym (are.hi.high 0 i (omega arith) h) ∙ zero_byte _ i first in
      whole_byte f i _ (omega arith) byte none;
  of_high = λ i h.
      let byte = are.lo.low 1 i (omega arith) h in
      let none = sym (are.hi.high 1 i (omega arith) h) ∙ zero_byte _ i second in
      whole_byte f (i * 16) _ (omega arith) byte none;
}
  where
    zero_byte : (t j : ℕ) → t ≡ 0 → byte_at t j ≡ 0
    zero_byte t j e = ap (λ t. byte_at t j) e ∙ ap (λ q. q % 256) (zero-div (256 ^ j))

    whole_byte : (f x : ℕ) {y : ℕ} (byte : ℕ) → y ≡ x → byte ≡ product y f % 256 → product y f / 256 ≡ 0
        → byte ≡ product x f
    whole_byte f x byte same low none = low ∙ omega (arith, none) ∙ ap (λ z. product z f) same

-- The product of a byte is the sum of the products of its nibbles.
pub product_of_byte : (f low high b v lo hi : ℕ) → AreByteProducts f low high → b < 256 → v ≡ bit_xor lo hi
    → lo ≡ byte_at low (b % 16) → hi ≡ byte_at high (b / 16) → v ≡ product b f
product_of_byte f low high b v lo hi are small sum is_low is_high =
    sum ∙ ap₂ bit_xor (is_low ∙ are.of_low (b % 16) (mod-lt b (omega arith)))
    (is_high ∙ are.of_high (b / 16) (omega (arith, small)))
    ∙ sym (product_xor_left (b % 16) (b / 16 * 16) f) ∙ ap (λ w. product w f) (byte_of_nibbles b)

pub low_products_additive : (f low high : ℕ) → AreByteProducts f low high → HasAdditiveBytes low
low_products_additive f low high are =
    nibble_bytes (λ x. product x f) (additive_left f) low 0 (omega arith)
    (λ p h. are.of_low p h ∙ ap (λ x. product x f) (let e : p ≡ p * 16 ^ 0 = omega arith in e))

pub high_products_additive : (f low high : ℕ) → AreByteProducts f low high → HasAdditiveBytes high
high_products_additive f low high are =
    nibble_bytes (λ x. product x f) (additive_left f) high 1 (omega arith)
    (λ p h. are.of_high p h ∙ ap (λ x. product x f) (let e : p * 16 ≡ p * 16 ^ 1 = omega arith in e))

pub change_lt : (h : ℕ) → change h < 256
change_lt h = xor_lt 8 _ _ (mod-lt _ (omega arith)) (mod-lt _ (omega arith))

-- The word of two bytes in the other basis.
pub twisted_bytes : (l h : ℕ) → l < 256 → twisted (l + 256 * h) ≡ bit_xor l (product h 256)
unfolding twisted
twisted_bytes l h small =
    let low : (l + 256 * h) % 256 ≡ l = omega arith in
    let high : (l + 256 * h) / 256 ≡ h = omega arith in
    ap₂ (λ a b. bit_xor a (product b 256)) low high

-- If r is the sum of the low byte and its change, r and the high byte are the word in the other basis.
pub twisted_word : (l h c r : ℕ) → l < 256 → h < 256 → c ≡ change h → r ≡ bit_xor l c
    → r + 256 * h ≡ twisted (l + 256 * h)
twisted_word l h c r low high is sum =
    let whole : l + 256 * 0 ≡ l = omega arith in
    ap₂ (λ a b. a + 256 * b) (sum ∙ ap (bit_xor l) is) (sym (xor_zero_r h) ∙ xor_comm h 0)
    ∙ sum_of_bytes l 0 (change h) h low (change_lt h)
    ∙ ap₂ bit_xor whole (sym (byte_times_256 h high)) ∙ sym (twisted_bytes l h low)

-- To change a word twice is to leave it as it is.
pub twisted_twice : (l h : ℕ) → l < 256 → h < 256 → twisted (twisted (l + 256 * h)) ≡ l + 256 * h
twisted_twice l h low high =
    let r : ℕ = bit_xor l (change h) in
    let small : bit_xor l (change h) < 256 = xor_lt 8 l (change h) low (change_lt h) in
    ap twisted (sym (twisted_word l h (change h) r low high refl refl))
    ∙ sym (twisted_word r h (change h) l small high refl (sym (xor_undo l (change h))))

pub twisted_zero : twisted 0 ≡ 0
unfolding twisted
twisted_zero = ap (bit_xor 0) (zero_product 256)

pub twisted_sum : (v w : ℕ) → twisted (bit_xor v w) ≡ bit_xor (twisted v) (twisted w)
unfolding twisted
twisted_sum v w =
    ap₂ bit_xor (xor_mod v w 8)
    (ap (λ h. product h 256) (xor_shr v w 8) ∙ product_xor_left (v / 256) (w / 256) 256)
    ∙ xor_swap (v % 256) (w % 256) (product (v / 256) 256) (product (w / 256) 256)

-- The products of both bytes with a factor are the product of the word in the other basis.
pub twisted_product : (l h f : ℕ) → l < 256 → product l f < 256
    → twisted (product l f + 256 * product h f) ≡ product (twisted (l + 256 * h)) f
twisted_product l h f low small =
    twisted_bytes (product l f) (product h f) small
    ∙ ap (bit_xor (product l f)) (product-right_comm h f 256)
    ∙ sym (product_xor_left l (product h 256) f) ∙ ap (λ w. product w f) (sym (twisted_bytes l h low))

-- The sums of two bytes and the products of two other bytes are, in the other basis, the sum of a word and a product.
pub added_product : (rl rh xl xh yl yh pl ph f : ℕ) → rl ≡ bit_xor xl pl → rh ≡ bit_xor xh ph
    → pl ≡ product yl f → ph ≡ product yh f → xl < 256 → yl < 256 → pl < 256
    → twisted (rl + 256 * rh) ≡ bit_xor (twisted (xl + 256 * xh)) (product (twisted (yl + 256 * yh)) f)
added_product rl rh xl xh yl yh pl ph f hl hh low high x_small y_small p_small =
    ap twisted (ap₂ (λ a b. a + 256 * b) hl hh ∙ sum_of_bytes xl xh pl ph x_small p_small)
    ∙ twisted_sum (xl + 256 * xh) (pl + 256 * ph)
    ∙ ap (bit_xor (twisted (xl + 256 * xh)))
    (ap twisted (ap₂ (λ a b. a + 256 * b) low high)
    ∙ twisted_product yl yh f y_small (omega (arith, low, p_small)))
