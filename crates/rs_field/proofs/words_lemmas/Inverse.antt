-- Squares, and the inverses of nonzero words.
use Rattle.std.proofs.Common.{◌≡◌, ℕ, zero, suc, ◌/◌, ◌^◌, ◌<◌, true, eqb, bit_xor, refl, sym, ap, ◌∙◌, arith, inl, inr}
use Rattle.std.specs.Int.Bits.{xor_comm, xor_assoc, xor_self, xor_zero_r, xor_shr}
use Rattle.std.proofs.lemmas.Bool.{cases_eq}
use Rattle.std.proofs.lemmas.Grind.{common_steps}
use Rattle.rs_field.specs.words.Field.{combine, cantor_basis, bits, monomials, from_bits, carryless, reduce, product}
use Rattle.rs_field.proofs.words_lemmas.Linear.{xor_swap, IsAdditive, passes_below}
use Rattle.rs_field.proofs.words_lemmas.Product.{same_on_words, product_xor_left, product_xor_right, product_lt}
use Rattle.rs_field.proofs.words_lemmas.Product.{product_comm, product_assoc, product_one, one_product, zero_product}

-- The XOR of a with b and of b with c is the XOR of a with c.
xor_cancel_middle : (a b c : ℕ) → bit_xor (bit_xor a b) (bit_xor b c) ≡ bit_xor a c
xor_cancel_middle a b c =
    xor_assoc a b (bit_xor b c) ∙ ap (bit_xor a) (sym (xor_assoc b b c) ∙ ap (λ x. bit_xor x c) (xor_self b))

pub square_xor : (a b : ℕ) → a < 2 ^ 16 → b < 2 ^ 16
    → product (bit_xor a b) (bit_xor a b) ≡ bit_xor (product a a) (product b b)
square_xor a b ha hb = grind (arith, common_steps, product_xor_left, product_xor_right, product_comm, xor_cancel_middle)

additive_square : IsAdditive 16 (λ x. product x x)
additive_square = record { xor = square_xor }

check_square : passes_below 16 (λ i. eqb (product (2 ^ i) (2 ^ i)) (bit_xor (2 ^ i) (2 ^ i / 2))) ≡ true
unfolding passes_below combine bits from_bits cantor_basis monomials carryless reduce product
check_square = refl

-- Cantor's recurrence: x * x + x is x shifted right by one bit.
pub square : (x : ℕ) → x < 2 ^ 16 → product x x ≡ bit_xor x (x / 2)
square =
    same_on_words (λ x. product x x) (λ x. bit_xor x (x / 2)) additive_square
    (record { xor = λ a b ha hb. ap (bit_xor (bit_xor a b)) (xor_shr a b 1) ∙ xor_swap a b (a / 2) (b / 2) })
    check_square

pub square_and_self : (x : ℕ) → x < 2 ^ 16 → bit_xor (product x x) x ≡ x / 2
square_and_self x hx =
    ap (λ v. bit_xor v x) (square x hx ∙ xor_comm x (x / 2)) ∙ xor_assoc (x / 2) x x ∙ ap (bit_xor (x / 2)) (xor_self x)
    ∙ xor_zero_r (x / 2)

-- ---- x to the power 2 ^ n, and to the power 2 ^ n - 1

unfoldable pub squared : ℕ → ℕ → ℕ
squared zero x = x
squared (suc n) x = squared n (product x x)

unfoldable pub ones_raised : ℕ → ℕ → ℕ
ones_raised zero x = 1
ones_raised (suc n) x = product x (ones_raised n (product x x))

squared_xor : (n a b : ℕ) → a < 2 ^ 16 → b < 2 ^ 16 → squared n (bit_xor a b) ≡ bit_xor (squared n a) (squared n b)
unfolding squared
squared_xor zero a b ha hb = refl
squared_xor (suc n) a b ha hb =
    ap (squared n) (square_xor a b ha hb) ∙ squared_xor n (product a a) (product b b) (product_lt a a) (product_lt b b)

pub ones_raised_lt : (n x : ℕ) → ones_raised n x < 2 ^ 16
unfolding ones_raised
ones_raised_lt zero x = omega arith
ones_raised_lt (suc n) x = product_lt x _

ones_raised_times : (n x : ℕ) → x < 2 ^ 16 → product (ones_raised n x) x ≡ squared n x
unfolding squared ones_raised
ones_raised_times zero x h = one_product x h
ones_raised_times (suc n) x h =
    grind (
      arith,
      common_steps,
      ones_raised_lt,
      product_comm,
      product_assoc,
      product_lt,
      ones_raised_times n
          (product x x) (product_lt x x),
    )

check_frobenius : passes_below 16 (λ i. eqb (squared 16 (2 ^ i)) (2 ^ i)) ≡ true
unfolding squared passes_below combine bits from_bits cantor_basis monomials carryless reduce product
check_frobenius = refl

-- The power 65536 of a word x is x.
pub frobenius : (x : ℕ) → x < 2 ^ 16 → squared 16 x ≡ x
frobenius = same_on_words (squared 16) (λ x. x) (record { xor = squared_xor 16 })
    (record { xor = λ a b ha hb. refl }) check_frobenius

-- A word that is its own square is 0 or 1.
idempotent : (e : ℕ) → e < 2 ^ 16 → product e e ≡ e → e < 2
idempotent e he h =
    let half : e / 2 ≡ 0 = sym (square_and_self e he) ∙ ap (λ v. bit_xor v e) h ∙ xor_self e in
    omega arith

ones_raised_suc : (n x : ℕ) → ones_raised (suc n) x ≡ product x (ones_raised n (product x x))
unfolding ones_raised
ones_raised_suc n x = refl

-- If e is x times q, and e times x is x, e is its own square.
own_square : (e x q : ℕ) → e < 2 ^ 16 → x < 2 ^ 16 → q < 2 ^ 16 → e ≡ product x q → product e x ≡ x → product e e ≡ e
own_square e x q he hx hq is fixed =
    ap (product e) is ∙ sym (product_assoc e x q he hx hq) ∙ ap (λ v. product v q) fixed ∙ sym is

zero_or_one : (e x : ℕ) → 0 < x → e < 2 → product e x ≡ x → e ≡ 1
zero_or_one zero x pos h fixed = let z : 0 ≡ x = sym (zero_product x) ∙ fixed in absurd (omega arith)
zero_or_one (suc zero) x pos h fixed = refl
zero_or_one (suc (suc e)) x pos h fixed = absurd (omega arith)

-- The power 65535 of a nonzero word is 1.
pub fermat : (x : ℕ) → 0 < x → x < 2 ^ 16 → ones_raised 16 x ≡ 1
fermat x pos hx =
    let he : ones_raised 16 x < 2 ^ 16 = ones_raised_lt 16 x in
    let fixed : product (ones_raised 16 x) x ≡ x = ones_raised_times 16 x hx ∙ frobenius x hx in
    let own : product (ones_raised 16 x) (ones_raised 16 x) ≡ ones_raised 16 x =
    own_square (ones_raised 16 x) x (ones_raised 15 (product x x)) he hx (ones_raised_lt 15 (product x x))
    (ones_raised_suc 15 x) fixed in
    zero_or_one (ones_raised 16 x) x pos (idempotent (ones_raised 16 x) he own) fixed

-- The power 65534 of a word is its inverse.
unfoldable pub inverse : ℕ → ℕ
inverse x = ones_raised 15 (product x x)

pub inverse_lt : (x : ℕ) → inverse x < 2 ^ 16
unfolding inverse
inverse_lt x = ones_raised_lt 15 (product x x)

pub product_inverse : (x : ℕ) → 0 < x → x < 2 ^ 16 → product x (inverse x) ≡ 1
unfolding inverse
product_inverse x pos hx = sym (ones_raised_suc 15 x) ∙ fermat x pos hx

-- A nonzero factor can be cancelled.
pub product_cancel : (x y z : ℕ) → 0 < x → x < 2 ^ 16 → y < 2 ^ 16 → z < 2 ^ 16 → product y x ≡ product z x → y ≡ z
product_cancel x y z pos hx hy hz e =
    sym (undo y hy) ∙ ap (λ v. product v (inverse x)) e ∙ undo z hz
  where
    undo : (y : ℕ) → y < 2 ^ 16 → product (product y x) (inverse x) ≡ y
    undo y hy = product_assoc y x (inverse x) hy hx (inverse_lt x) ∙ ap (product y) (product_inverse x pos hx)
        ∙ product_one y hy

-- The product of nonzero words is not zero.
pub product_pos : (x y : ℕ) → 0 < x → 0 < y → x < 2 ^ 16 → y < 2 ^ 16 → 0 < product x y
product_pos x y px py hx hy =
    elim (cases_eq (product x y) 0) [
      | inl e ↦ let z : x ≡ 0 = product_cancel y x 0 py hy hx (omega arith) (e ∙ sym (zero_product y)) in
          absurd (omega arith)
      | inr apart ↦ omega arith
    ]
