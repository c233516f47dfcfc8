-- The laws of the product of words.
use Rattle.std.proofs.Common.{◌≡◌, ℕ, zero, suc, ◌+◌, ◌*◌, ◌/◌, ◌%◌, ◌^◌, ◌<◌, List, [], ◌∷◌, Bool, true, ◌&&◌, eqb}
use Rattle.std.proofs.Common.{bit_xor, refl, sym, ap, ap₂, ◌∙◌, arith, eqb-true, ltb, ltb-true, zero-mul, one-mul}
use Rattle.std.proofs.Common.{mod-lt}
use Rattle.std.specs.Int.Bits.{xor_shr, xor_lt}
use Rattle.std.proofs.lemmas.Bool.{and_parts}
use Rattle.std.proofs.lemmas.Grind.{common_steps}
use Rattle.rs_field.specs.words.Field.{combine, cantor_basis, bits, monomials, from_bits, carryless, reduce, product}
use Rattle.rs_field.proofs.words_lemmas.Linear.{xor_swap, xor_times_pow, lowest_xor, combine_xor, IsAdditive}
use Rattle.rs_field.proofs.words_lemmas.Linear.{additive_zero}
use Rattle.rs_field.proofs.words_lemmas.Linear.{agree_below, passes_below, from_passes_below}

pub bits_xor : (x y : ℕ) → bits (bit_xor x y) ≡ bit_xor (bits x) (bits y)
unfolding bits
bits_xor x y = combine_xor cantor_basis x y

pub from_bits_xor : (x y : ℕ) → from_bits (bit_xor x y) ≡ bit_xor (from_bits x) (from_bits y)
unfolding from_bits
from_bits_xor x y = combine_xor monomials x y

carryless_xor_left : (n a c b : ℕ) → carryless n (bit_xor a c) b ≡ bit_xor (carryless n a b) (carryless n c b)
unfolding carryless
carryless_xor_left zero a c b = refl
carryless_xor_left (suc n) a c b =
    ap₂ bit_xor (lowest_xor a c b)
    (ap (λ x. carryless n x (b * 2)) (xor_shr a c 1) ∙ carryless_xor_left n (a / 2) (c / 2) (b * 2))
    ∙ xor_swap (a % 2 * b) (c % 2 * b) (carryless n (a / 2) (b * 2)) (carryless n (c / 2) (b * 2))

digit_times_lt : (d b m : ℕ) → d < 2 → b < m → d * b < m
digit_times_lt d b m h1 h2 = grind (arith, common_steps, zero-mul, one-mul)

-- The product of a digit with a XOR is the XOR of the products.
digit_times_xor : (d a b : ℕ) → d < 2 → d * bit_xor a b ≡ bit_xor (d * a) (d * b)
digit_times_xor zero a b h = zero-mul _ ∙ sym (ap₂ bit_xor (zero-mul a) (zero-mul b))
digit_times_xor (suc zero) a b h = one-mul _ ∙ sym (ap₂ bit_xor (one-mul a) (one-mul b))
digit_times_xor (suc (suc d)) a b h = absurd (omega arith)

carryless_xor_right : (n a b c : ℕ) → carryless n a (bit_xor b c) ≡ bit_xor (carryless n a b) (carryless n a c)
unfolding carryless
carryless_xor_right zero a b c = refl
carryless_xor_right (suc n) a b c =
    let two : 0 < 2 = omega arith in
    ap₂ bit_xor (digit_times_xor (a % 2) b c (mod-lt a two))
    (ap (carryless n (a / 2)) (xor_times_pow 1 b c) ∙ carryless_xor_right n (a / 2) (b * 2) (c * 2))
    ∙ xor_swap (a % 2 * b) (a % 2 * c) (carryless n (a / 2) (b * 2)) (carryless n (a / 2) (c * 2))

reduce_xor : (n p q : ℕ) → reduce n (bit_xor p q) ≡ bit_xor (reduce n p) (reduce n q)
unfolding reduce
reduce_xor zero p q = refl
reduce_xor (suc n) p q =
    let m : ℕ = 0x1002D * 2 ^ n in
    ap (reduce n)
    (ap (λ x. bit_xor (bit_xor p q) (x % 2 * m)) (xor_shr p q (16 + n))
    ∙ ap (bit_xor (bit_xor p q)) (lowest_xor (p / 2 ^ (16 + n)) (q / 2 ^ (16 + n)) m)
    ∙ xor_swap p q (p / 2 ^ (16 + n) % 2 * m) (q / 2 ^ (16 + n) % 2 * m))
    ∙ reduce_xor n _ _

pub product_xor_left : (x y z : ℕ) → product (bit_xor x y) z ≡ bit_xor (product x z) (product y z)
unfolding product
product_xor_left x y z = grind (arith, common_steps, bits_xor, carryless_xor_left, reduce_xor, from_bits_xor)

pub product_xor_right : (x y z : ℕ) → product x (bit_xor y z) ≡ bit_xor (product x y) (product x z)
unfolding product
product_xor_right x y z = grind (arith, common_steps, bits_xor, carryless_xor_right, reduce_xor, from_bits_xor)

-- ---- bounds

unfoldable entries_below : ℕ → List ℕ → Bool
entries_below m [] = true
entries_below m (b ∷ bs) = ltb b m && entries_below m bs

combine_lt : (bs : List ℕ) (x : ℕ) → entries_below (2 ^ 16) bs ≡ true → combine bs x < 2 ^ 16
unfolding combine entries_below
combine_lt [] x h = omega arith
combine_lt (b ∷ bs) x h =
    let first : b < 2 ^ 16 = ltb-true b (2 ^ 16) (and_parts _ _ h).0 in
    xor_lt 16 _ _ (digit_times_lt (x % 2) b (2 ^ 16) (mod-lt x (omega arith)) first)
    (combine_lt bs (x / 2) (and_parts _ _ h).1)

pub from_bits_lt : (v : ℕ) → from_bits v < 2 ^ 16
unfolding from_bits entries_below monomials
from_bits_lt v = combine_lt monomials v refl

pub product_lt : (x y : ℕ) → product x y < 2 ^ 16
unfolding product
product_lt x y = from_bits_lt _

-- ---- by computation on the powers of two

-- Two maps that keep XOR and pass a test at each power of two are equal on words.
pub same_on_words : (f g : ℕ → ℕ) → IsAdditive 16 f → IsAdditive 16 g
    → passes_below 16 (λ i. eqb (f (2 ^ i)) (g (2 ^ i))) ≡ true → (x : ℕ) → x < 2 ^ 16 → f x ≡ g x
same_on_words f g hf hg same x hx =
    agree_below hf hg
    (λ i hi. eqb-true (f (2 ^ i)) (g (2 ^ i)) (from_passes_below 16 (λ i. eqb (f (2 ^ i)) (g (2 ^ i))) same i hi))
    16 (omega arith) x hx

-- The coordinates of a word determine the word.
pub from_bits-bits : (x : ℕ) → x < 2 ^ 16 → from_bits (bits x) ≡ x
unfolding passes_below combine bits from_bits cantor_basis monomials
from_bits-bits x hx =
    same_on_words (λ x. from_bits (bits x)) (λ x. x)
    (record { xor = λ a b ha hb. ap from_bits (bits_xor a b) ∙ from_bits_xor (bits a) (bits b) })
    (record { xor = λ a b ha hb. refl }) refl x hx

-- Two maps that are additive in both words are equal if they agree at the 256 pairs of powers of two.
pub same_on_pairs : (f g : ℕ → ℕ → ℕ)
    → ((y : ℕ) → IsAdditive 16 (λ x. f x y)) → ((x : ℕ) → IsAdditive 16 (f x))
    → ((y : ℕ) → IsAdditive 16 (λ x. g x y)) → ((x : ℕ) → IsAdditive 16 (g x))
    → passes_below 16 (λ i. passes_below 16 (λ j. eqb (f (2 ^ i) (2 ^ j)) (g (2 ^ i) (2 ^ j)))) ≡ true
    → (x y : ℕ) → x < 2 ^ 16 → y < 2 ^ 16 → f x y ≡ g x y
same_on_pairs f g fl fr gl gr same x y hx hy =
    agree_below (fl y) (gl y)
    (λ i hi. same_on_words (f (2 ^ i)) (g (2 ^ i)) (fr (2 ^ i)) (gr (2 ^ i))
    (from_passes_below 16 (λ i. passes_below 16 (λ j. eqb (f (2 ^ i) (2 ^ j)) (g (2 ^ i) (2 ^ j)))) same i hi) y hy)
    16 (omega arith) x hx

-- Two maps that are additive in three words are equal if they agree at the 4096 triples of powers of two.
pub same_on_triples : (f g : ℕ → ℕ → ℕ → ℕ)
    → ((y z : ℕ) → IsAdditive 16 (λ x. f x y z)) → ((x z : ℕ) → IsAdditive 16 (λ y. f x y z))
    → ((x y : ℕ) → IsAdditive 16 (f x y))
    → ((y z : ℕ) → IsAdditive 16 (λ x. g x y z)) → ((x z : ℕ) → IsAdditive 16 (λ y. g x y z))
    → ((x y : ℕ) → IsAdditive 16 (g x y))
    → passes_below 16 (λ i.
    passes_below 16 (λ j. passes_below 16 (λ k. eqb (f (2 ^ i) (2 ^ j) (2 ^ k)) (g (2 ^ i) (2 ^ j) (2 ^ k)))))
    ≡ true
    → (x y z : ℕ) → x < 2 ^ 16 → y < 2 ^ 16 → z < 2 ^ 16 → f x y z ≡ g x y z
same_on_triples f g f1 f2 f3 g1 g2 g3 same x y z hx hy hz =
    agree_below (f1 y z) (g1 y z)
    (λ i hi. same_on_pairs (f (2 ^ i)) (g (2 ^ i)) (f2 (2 ^ i)) (f3 (2 ^ i)) (g2 (2 ^ i)) (g3 (2 ^ i))
    (from_passes_below 16
    (λ i. passes_below 16 (λ j. passes_below 16 (λ k. eqb (f (2 ^ i) (2 ^ j) (2 ^ k)) (g (2 ^ i) (2 ^ j) (2 ^ k)))))
    same i hi) y z hy hz)
    16 (omega arith) x hx

pub additive_left : (y : ℕ) → IsAdditive 16 (λ x. product x y)
additive_left y = record { xor = λ a b ha hb. product_xor_left a b y }

pub additive_right : (x : ℕ) → IsAdditive 16 (product x)
additive_right x = record { xor = λ a b ha hb. product_xor_right x a b }

-- The laws of the product hold at powers of two.
check_laws : (passes_below 16 (λ i. passes_below 16 (λ j. eqb (product (2 ^ i) (2 ^ j)) (product (2 ^ j) (2 ^ i))))
    ≡ true)
    × (passes_below 16 (λ i.
    passes_below 16 (λ j.
    passes_below 16 (λ k.
    eqb (product (product (2 ^ i) (2 ^ j)) (2 ^ k)) (product (2 ^ i) (product (2 ^ j) (2 ^ k)))))) ≡ true)
    × (passes_below 16 (λ i. eqb (product (2 ^ i) 1) (2 ^ i)) ≡ true)
    × (passes_below 16 (λ i.
    passes_below 16 (λ j.
    eqb (bits (product (2 ^ i) (2 ^ j))) (reduce 16 (carryless 16 (bits (2 ^ i)) (bits (2 ^ j)))))) ≡ true)
unfolding passes_below combine bits from_bits cantor_basis monomials carryless reduce product
check_laws = (refl, refl, refl, refl)

pub product_comm : (x y : ℕ) → x < 2 ^ 16 → y < 2 ^ 16 → product x y ≡ product y x
product_comm =
    same_on_pairs product (λ x y. product y x) additive_left additive_right additive_right additive_left check_laws.0

pub product_assoc : (x y z : ℕ) → x < 2 ^ 16 → y < 2 ^ 16 → z < 2 ^ 16
    → product (product x y) z ≡ product x (product y z)
product_assoc =
    same_on_triples (λ x y z. product (product x y) z) (λ x y z. product x (product y z))
    (λ y z. record { xor = λ a b ha hb. ap (λ v. product v z) (product_xor_left a b y) ∙ product_xor_left _ _ z })
    (λ x z. record { xor = λ a b ha hb. ap (λ v. product v z) (product_xor_right x a b) ∙ product_xor_left _ _ z })
    (λ x y. additive_right (product x y))
    (λ y z. additive_left (product y z))
    (λ x z. record { xor = λ a b ha hb. ap (product x) (product_xor_left a b z) ∙ product_xor_right x _ _ })
    (λ x y. record { xor = λ a b ha hb. ap (product x) (product_xor_right y a b) ∙ product_xor_right x _ _ })
    check_laws.1

pub product_one : (x : ℕ) → x < 2 ^ 16 → product x 1 ≡ x
product_one = same_on_words (λ x. product x 1) (λ x. x) (additive_left 1)
    (record { xor = λ a b ha hb. refl }) check_laws.2

pub one_product : (x : ℕ) → x < 2 ^ 16 → product 1 x ≡ x
one_product x hx = product_comm 1 x (omega arith) hx ∙ product_one x hx

pub product_zero : (x : ℕ) → product x 0 ≡ 0
product_zero x = additive_zero (additive_right x)

pub zero_product : (x : ℕ) → product 0 x ≡ 0
zero_product x = additive_zero (additive_left x)

-- The `bits` of a product are the shift-and-XOR product of the `bits`, reduced.
pub bits-product : (x y : ℕ) → x < 2 ^ 16 → y < 2 ^ 16 → bits (product x y) ≡ reduce 16 (carryless 16 (bits x) (bits y))
bits-product =
    same_on_pairs (λ x y. bits (product x y)) (λ x y. reduce 16 (carryless 16 (bits x) (bits y)))
    (λ y. record { xor = λ a b ha hb. ap bits (product_xor_left a b y) ∙ bits_xor (product a y) (product b y) })
    (λ x. record { xor = λ a b ha hb. ap bits (product_xor_right x a b) ∙ bits_xor (product x a) (product x b) })
    (λ y. record {
      xor = λ a b ha hb.
          ap (reduce 16) (ap (λ v. carryless 16 v (bits y)) (bits_xor a b)
          ∙ carryless_xor_left 16 (bits a) (bits b) (bits y))
          ∙ reduce_xor 16 (carryless 16 (bits a) (bits y)) (carryless 16 (bits b) (bits y));
    })
    (λ x. record {
      xor = λ a b ha hb.
          ap (reduce 16) (ap (carryless 16 (bits x)) (bits_xor a b) ∙ carryless_xor_right 16 (bits x) (bits a) (bits b))
          ∙ reduce_xor 16 (carryless 16 (bits x) (bits a)) (carryless 16 (bits x) (bits b));
    })
    check_laws.3

pub bits_injective : (x y : ℕ) → x < 2 ^ 16 → y < 2 ^ 16 → bits x ≡ bits y → x ≡ y
bits_injective x y hx hy e = sym (from_bits-bits x hx) ∙ ap from_bits e ∙ from_bits-bits y hy
