-- Sums and multiples of polynomials, and a polynomial times linear factors.
use Rattle.std.proofs.Common.{◌≡◌, ℕ, zero, suc, ◌+◌, ◌<◌, ◌≤◌, List, [], ◌∷◌, length, bit_xor, refl, ap, sym, ◌∙◌}
use Rattle.std.proofs.Common.{arith}
use Rattle.std.specs.Prelude.{All}
use Rattle.std.specs.Int.Bits.{xor_lt, xor_zero_r}
use Rattle.rs_field.specs.words.Field.{product}
use Rattle.rs_field.specs.words.Polynomial.{value}
use Rattle.rs_field.specs.words.Subspace.{product_below}
use Rattle.rs_field.proofs.words_lemmas.Linear.{xor_swap}
use Rattle.rs_field.proofs.words_lemmas.Product.{product_lt, product_zero, one_product, product_xor_left}
use Rattle.rs_field.proofs.words_lemmas.Product.{product_xor_right}
use Rattle.rs_field.proofs.words_lemmas.Total.{product-comm, product-assoc, product-left_comm}
use Rattle.rs_field.proofs.words_lemmas.Roots.{WordsOneByOne, value_lt}
use Rattle.rs_field.proofs.words_lemmas.Subspace.{product_below-suc, product_below-zero}
use Rattle.std.proofs.lemmas.Grind.{common_steps}

-- The sum of two polynomials.
unfoldable pub add : List ℕ → List ℕ → List ℕ
add [] q = q
add (a ∷ p) [] = a ∷ p
add (a ∷ p) (b ∷ q) = bit_xor a b ∷ add p q

-- A polynomial times a word.
unfoldable pub scale : ℕ → List ℕ → List ℕ
scale c [] = []
scale c (a ∷ p) = product c a ∷ scale c p

-- A polynomial times x + a.
unfoldable pub with_root : ℕ → List ℕ → List ℕ
with_root a p = add (0 ∷ p) (scale a p)

-- The n points from a on, with the last one first.
unfoldable pub points : ℕ → ℕ → List ℕ
points a zero = []
points a (suc n) = (a + n) ∷ points a n

-- A polynomial times x + a for each a of a list.
unfoldable pub times : List ℕ → List ℕ → List ℕ
times [] p = p
times (a ∷ r) p = with_root a (times r p)

-- The value of a sum is the sum of the values.
pub value_add : (p q : List ℕ) (x : ℕ) → value (add p q) x ≡ bit_xor (value p x) (value q x)
unfolding value add
value_add [] q x = refl
value_add (a ∷ p) [] x = sym (xor_zero_r (bit_xor a (product x (value p x))))
value_add (a ∷ p) (b ∷ q) x =
    rw (value_add p q x, product_xor_right x (value p x) (value q x))
    (xor_swap a b (product x (value p x)) (product x (value q x)))

-- The value of a multiple is the multiple of the value.
pub value_scale : (c : ℕ) (p : List ℕ) (x : ℕ) → value (scale c p) x ≡ product c (value p x)
unfolding value scale
value_scale c [] x = sym (product_zero c)
value_scale c (a ∷ p) x =
    ap (bit_xor (product c a)) (ap (product x) (value_scale c p x) ∙ product-left_comm x c (value p x))
    ∙ sym (product_xor_right c a (product x (value p x)))

-- Multiplying a polynomial by x + a multiplies its value by the value of x + a.
pub value_with_root : (a : ℕ) (p : List ℕ) (x : ℕ) → value (with_root a p) x ≡ product (bit_xor x a) (value p x)
unfolding with_root value
value_with_root a p x =
    value_add (0 ∷ p) (scale a p) x ∙ ap (bit_xor (product x (value p x))) (value_scale a p x)
    ∙ sym (product_xor_left x a (value p x))

pub length-scale : (c : ℕ) (p : List ℕ) → length (scale c p) ≡ length p
unfolding scale
length-scale c [] = refl
length-scale c (a ∷ p) = ap suc (length-scale c p)

pub length-add : (p q : List ℕ) → length q ≤ length p → length (add p q) ≡ length p
unfolding add
length-add [] [] h = refl
length-add [] (b ∷ q) h = absurd (let no : ⊥ = omega arith in no)
length-add (a ∷ p) [] h = refl
length-add (a ∷ p) (b ∷ q) h = ap suc (length-add p q (let le : length q ≤ length p = omega arith in le))

pub length-with_root : (a : ℕ) (p : List ℕ) → length (with_root a p) ≡ suc (length p)
unfolding with_root
length-with_root a p = grind (arith, common_steps, length-scale, length-add)

pub words_add : (p q : List ℕ) → WordsOneByOne p → WordsOneByOne q → WordsOneByOne (add p q)
unfolding add
words_add [] q hp hq = hq
words_add (a ∷ p) [] hp hq = hp
words_add (a ∷ p) (b ∷ q) hp hq = (xor_lt 16 a b hp.0 hq.0, words_add p q hp.1 hq.1)

pub words_scale : (c : ℕ) (p : List ℕ) → WordsOneByOne (scale c p)
unfolding scale
words_scale c [] = tt
words_scale c (a ∷ p) = (product_lt c a, words_scale c p)

pub words_with_root : (a : ℕ) (p : List ℕ) → WordsOneByOne p → WordsOneByOne (with_root a p)
unfolding with_root
words_with_root a p h = words_add (0 ∷ p) (scale a p) (omega arith, h) (words_scale a p)

pub words_times : (r p : List ℕ) → WordsOneByOne p → WordsOneByOne (times r p)
unfolding times
words_times [] p h = h
words_times (a ∷ r) p h = words_with_root a (times r p) (words_times r p h)

pub length-times : (a n : ℕ) (p : List ℕ) → length (times (points a n) p) ≡ n + length p
unfolding times points
length-times a zero p = omega arith
length-times a (suc n) p = let e : length (times (points a n) p) ≡ n + length p = length-times a n p in
    length-with_root (a + n) (times (points a n) p) ∙ omega arith

-- The value of a polynomial times the factors at n points is its value times the product of the factors.
pub value-times : (a n : ℕ) (p : List ℕ) → WordsOneByOne p → (x : ℕ)
    → value (times (points a n) p) x ≡ product (product_below n (λ i. bit_xor x (a + i))) (value p x)
unfolding times points
value-times a zero p w x = grind (arith, common_steps, product_below-zero, one_product, value_lt)
value-times a (suc n) p w x =
    grind (arith, common_steps, value_with_root, product-assoc, product-comm, product_below-suc, value-times a n p w x)

-- Words in the recursive form `WordsOneByOne` are words by `All`.
pub all_words : (p : List ℕ) → WordsOneByOne p → All (λ w. w < 65536) p
all_words [] h k d hk = absurd (let no : ⊥ = omega arith in no)
all_words (c ∷ cs) h zero d hk = h.0
all_words (c ∷ cs) h (suc k) d hk = all_words cs h.1 k d (omega arith)
