-- The points below 2 ^ e are enough: the roots at larger points can be divided out, or added.
use Rattle.std.proofs.Common.{◌≡◌, ℕ, zero, suc, ◌+◌, ◌-◌, ◌^◌, ◌<◌, ◌≤◌, List, length, bit_xor, sym, ap, ◌∙◌, arith}
use Rattle.std.proofs.Common.{inl, inr, pow_mono, subst}
use Rattle.std.specs.Int.Bits.{xor_self}
use Rattle.std.proofs.lemmas.Bool.{cases_eq}
use Rattle.rs_field.specs.words.Field.{product}
use Rattle.rs_field.specs.words.Polynomial.{value}
use Rattle.rs_field.proofs.words_lemmas.Product.{product_zero, zero_product, one_product}
use Rattle.rs_field.proofs.words_lemmas.Roots.{WordsOneByOne, value_lt}
use Rattle.rs_field.proofs.words_lemmas.Subspace.{outside}
use Rattle.rs_field.proofs.words_lemmas.Factors.{points, times, value_with_root, value-times, length-times, words_times}
use Rattle.rs_field.proofs.words_lemmas.Division.{AreFalling, AreRoots, divided_by}
use Rattle.std.proofs.lemmas.Grind.{common_steps}

falling_points : (a n : ℕ) → AreFalling (a + n) (points a n)
unfolding points
falling_points a zero = tt
falling_points a (suc n) = (omega arith, falling_points a n)

roots_points : (a n : ℕ) (p : List ℕ) → ((i : ℕ) → i < n → value p (a + i) ≡ 0) → AreRoots p (points a n)
unfolding points
roots_points a zero p at = tt
roots_points a (suc n) p at = (at n (omega arith), roots_points a n p (λ i hi. at i (omega arith)))

length-points : (a n : ℕ) → length (points a n) ≡ n
unfolding points
length-points a zero = omega arith
length-points a (suc n) = ap suc (length-points a n)

pub root_there : (a n : ℕ) (p : List ℕ) (i : ℕ) → i < n → value (times (points a n) p) (a + i) ≡ 0
unfolding points times
root_there a zero p i hi = absurd (let no : ⊥ = omega arith in no)
root_there a (suc n) p i hi =
    value_with_root (a + n) (times (points a n) p) (a + i)
    ∙ elim (cases_eq i n) [
      | inl same ↦ ap (λ k. product k (value (times (points a n) p) (a + i)))
          (ap (λ j. bit_xor (a + i) (a + j)) (sym same) ∙ xor_self (a + i))
          ∙ zero_product (value (times (points a n) p) (a + i))
      | inr apart ↦ ap (product (bit_xor (a + i) (a + n))) (root_there a n p i (omega arith))
          ∙ product_zero (bit_xor (a + i) (a + n))
    ]

-- Below 2 ^ e, adding roots at all points from 2 ^ e on does not change the value.
pub value-inside : (e : ℕ) (q : List ℕ) → e ≤ 16 → WordsOneByOne q → (x : ℕ) → x < 2 ^ e
    → value (times (points (2 ^ e) (65536 - 2 ^ e)) q) x ≡ value q x
value-inside e q he words x hx =
    cc (value-times (2 ^ e) (65536 - 2 ^ e) q words x, outside e x he hx, one_product (value q x) (value_lt q x words))

-- At a point from 2 ^ e on, the polynomial with the added roots is zero.
pub zero_outside : (e : ℕ) (q : List ℕ) (x : ℕ) → 2 ^ e ≤ x → x < 65536
    → value (times (points (2 ^ e) (65536 - 2 ^ e)) q) x ≡ 0
zero_outside e q x above below =
    grind (arith, common_steps, root_there (2 ^ e) (65536 - 2 ^ e) q (x - 2 ^ e) (omega arith))

-- A polynomial that is zero at each point from 2 ^ e on has, below 2 ^ e, the values of a polynomial without these
-- roots.
pub narrowed : (e b : ℕ) (p : List ℕ) → e ≤ 16 → length p ≡ b + (65536 - 2 ^ e) → WordsOneByOne p
    → ((x : ℕ) → 2 ^ e ≤ x → x < 65536 → value p x ≡ 0)
    → (q : List ℕ) × (length q ≡ b) × WordsOneByOne q × ((x : ℕ) → x < 2 ^ e → value q x ≡ value p x)
narrowed e b p he size words none =
    let room : 2 ^ e ≤ 2 ^ 16 = pow_mono he in
    let count = length-points (2 ^ e) (65536 - 2 ^ e) in
    let (q, degree, coefficients, at) = divided_by 65536 (points (2 ^ e) (65536 - 2 ^ e)) p b (omega arith)
    (subst (λ (n : ℕ). AreFalling n (points (2 ^ e) (65536 - 2 ^ e))) (omega arith)
    (falling_points (2 ^ e) (65536 - 2 ^ e))) (omega arith) words
    (roots_points (2 ^ e) (65536 - 2 ^ e) p (λ i hi. none (2 ^ e + i) (omega arith) (omega arith))) in
    (q, degree, coefficients, λ x hx. sym (at x ∙ value-inside e q he coefficients x hx))

-- A polynomial has, below 2 ^ e, the values of a polynomial that is zero at each point from 2 ^ e on.
pub widened : (e b : ℕ) (q : List ℕ) → e ≤ 16 → length q ≡ b → WordsOneByOne q
    → (p : List ℕ) × (length p ≡ b + (65536 - 2 ^ e)) × WordsOneByOne p × ((x : ℕ) → x < 2 ^ e → value p x ≡ value q x)
    × ((x : ℕ) → 2 ^ e ≤ x → x < 65536 → value p x ≡ 0)
widened e b q he size words = (
  times (points (2 ^ e) (65536 - 2 ^ e)) q,
  length-times (2 ^ e) (65536 - 2 ^ e) q ∙ omega arith,
  words_times (points (2 ^ e) (65536 - 2 ^ e)) q words,
  value-inside e q he words,
  zero_outside e q,
)
