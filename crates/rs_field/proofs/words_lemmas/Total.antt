-- The laws of the product at all numbers. Only the lowest 16 bits of a factor matter.
use Rattle.std.proofs.Common.{◌≡◌, ℕ, ◌*◌, ◌/◌, ◌%◌, ◌^◌, ◌<◌, List, [], ◌∷◌, length, bit_xor, refl, sym, ap, ap₂, ◌∙◌}
use Rattle.std.proofs.Common.{mod-lt, zero-mul}
use Rattle.std.specs.Int.Bits.{shifted_half, shifted_even}
use Rattle.std.proofs.lemmas.Nat.{pow_pos}
use Rattle.rs_field.specs.words.Field.{combine, cantor_basis, bits, from_bits, carryless, reduce, product}
use Rattle.rs_field.proofs.words_lemmas.Product.{bits_xor, product_comm, product_assoc}
use Rattle.rs_field.proofs.words_lemmas.Linear.{split_top}

combine_high : (bs : List ℕ) (h : ℕ) → combine bs (h * 2 ^ length bs) ≡ 0
unfolding combine
combine_high [] h = refl
combine_high (b ∷ bs) h =
    ap₂ bit_xor (ap (λ d. d * b) (shifted_even h (length bs)) ∙ zero-mul b)
    (ap (combine bs) (shifted_half h (length bs)) ∙ combine_high bs h)

bits_high : (h : ℕ) → bits (h * 2 ^ 16) ≡ 0
unfolding bits cantor_basis
bits_high h = combine_high cantor_basis h

bits_low : (x : ℕ) → bits (x % 2 ^ 16) ≡ bits x
bits_low x =
    sym (ap bits (split_top 16 x) ∙ bits_xor (x / 2 ^ 16 * 2 ^ 16) (x % 2 ^ 16)
    ∙ ap (λ v. bit_xor v (bits (x % 2 ^ 16))) (bits_high (x / 2 ^ 16)))

low_left : (x y : ℕ) → product (x % 2 ^ 16) y ≡ product x y
unfolding product
low_left x y = ap (λ b. from_bits (reduce 16 (carryless 16 b (bits y)))) (bits_low x)

low_right : (x y : ℕ) → product x (y % 2 ^ 16) ≡ product x y
unfolding product
low_right x y = ap (λ b. from_bits (reduce 16 (carryless 16 (bits x) b))) (bits_low y)

low_lt : (x : ℕ) → x % 2 ^ 16 < 2 ^ 16
low_lt x = mod-lt x (pow_pos 16)

pub product-comm : (x y : ℕ) → product x y ≡ product y x
product-comm x y =
    sym (low_left x y) ∙ sym (low_right (x % 2 ^ 16) y) ∙ product_comm (x % 2 ^ 16) (y % 2 ^ 16) (low_lt x) (low_lt y)
    ∙ low_right (y % 2 ^ 16) x ∙ low_left y x

pub product-assoc : (x y z : ℕ) → product (product x y) z ≡ product x (product y z)
product-assoc x y z =
    let p : ℕ = x % 2 ^ 16 in
    let q : ℕ = y % 2 ^ 16 in
    let r : ℕ = z % 2 ^ 16 in
    ap (λ v. product v z) (sym (low_left x y) ∙ sym (low_right p y)) ∙ sym (low_right (product p q) z)
    ∙ product_assoc p q r (low_lt x) (low_lt y) (low_lt z)
    ∙ low_left x (product q r) ∙ ap (product x) (low_left y r ∙ low_right y z)

-- Exchanging the first two of three factors does not change the product.
pub product-left_comm : (x y z : ℕ) → product x (product y z) ≡ product y (product x z)
product-left_comm x y z = sym (product-assoc x y z) ∙ ap (λ (w : ℕ). product w z) (product-comm x y)
    ∙ product-assoc y x z

pub product-right_comm : (x y z : ℕ) → product (product x y) z ≡ product (product x z) y
product-right_comm x y z = product-assoc x y z ∙ ap (product x) (product-comm y z) ∙ sym (product-assoc x z y)
