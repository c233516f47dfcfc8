-- Any 2 ^ e words are the values of a combination of basis polynomials, and its last coefficient is their sum.
use Rattle.std.proofs.Common.{◌≡◌, ℕ, ◌+◌, ◌-◌, ◌*◌, ◌^◌, ◌<◌, ◌≤◌, List, length, sym, ap, ◌∙◌, arith, pow_mono}
use Rattle.std.proofs.Common.{zero-add, add-zero}
use Rattle.std.proofs.lemmas.Nat.{pow_pos}
use Rattle.std.proofs.lemmas.Grind.{common_steps}
use Rattle.rs_field.specs.words.Field.{product}
use Rattle.rs_field.specs.words.Polynomial.{value}
use Rattle.rs_field.specs.words.Transform.{sum_below, forward}
use Rattle.rs_field.proofs.words_lemmas.Product.{product_lt, product_one}
use Rattle.rs_field.proofs.words_lemmas.Roots.{WordsOneByOne, value_lt}
use Rattle.rs_field.proofs.words_lemmas.Combination.{forward-one, forward-product, forward_lt, sum_below_lt}
use Rattle.rs_field.proofs.words_lemmas.Combination.{sum_below-same}
use Rattle.rs_field.proofs.words_lemmas.Coefficients.{no_terms_past}
use Rattle.rs_field.proofs.words_lemmas.TopBlock.{joined_blocks, values-joined, last-joined}

-- Coefficients of a combination with the words f as values at the first 2 ^ e points. The last one is the sum of the
-- words.
pub record AreCoefficientsOf (e : ℕ) (f coefficients : ℕ → ℕ) : Type 0 where
  pub word : (i : ℕ) → coefficients i < 2 ^ 16
  pub at : (x : ℕ) → x < 2 ^ e → forward (2 ^ e) 0 coefficients x ≡ f x
  pub last : coefficients (2 ^ e - 1) ≡ sum_below (2 ^ e) f

-- The coefficients before they are reduced to words, and their values.
joined : ℕ → (ℕ → ℕ) → ℕ → ℕ
joined e f = joined_blocks 0 e 0 (λ j q. f j)

joined-at : (e : ℕ) (f : ℕ → ℕ) (x : ℕ) → e ≤ 16 → ((i : ℕ) → f i < 2 ^ 16) → x < 2 ^ e
    → forward (2 ^ e) 0 (joined e f) x ≡ f x
unfolding joined
joined-at e f x he words hx =
    let room : 2 ^ e ≤ 2 ^ 16 = pow_mono he in
    let blocks : forward (2 ^ (0 + e)) (0 * 2 ^ 0) (joined_blocks 0 e 0 (λ j q. f j)) (x * 2 ^ 0 + 0)
    ≡ forward (2 ^ 0) ((0 + x) * 2 ^ 0) (λ q. f (0 + x)) 0 =
    values-joined 0 e 0 (λ j q. f j) x 0 (grind (arith, common_steps)) (grind (arith, common_steps)) hx (pow_pos 0) in
    grind (arith, common_steps, blocks, forward-one)

joined-last : (e : ℕ) (f : ℕ → ℕ) → joined e f (2 ^ e - 1) ≡ sum_below (2 ^ e) f
unfolding joined
joined-last e f =
    let pos : 0 < 2 ^ e = pow_pos e in
    let whole : 2 ^ e - 1 + 2 ^ 0 ≡ 2 ^ (0 + e) = grind (arith, common_steps) in
    ap (joined_blocks 0 e 0 (λ j q. f j)) (sym (add-zero (2 ^ e - 1)))
    ∙ last-joined 0 e 0 (λ j q. f j) (2 ^ e - 1) 0 whole
    ∙ sum_below-same (2 ^ e) (λ j. f (0 + j)) f (λ j h. ap f (zero-add j))

-- Any 2 ^ e words have such coefficients.
pub coefficients_of : (e : ℕ) (f : ℕ → ℕ) → e ≤ 16 → ((i : ℕ) → f i < 2 ^ 16)
    → (coefficients : ℕ → ℕ) × AreCoefficientsOf e f coefficients
coefficients_of e f he words = (
  λ q. product (joined e f q) 1,
  record {
    word = λ i. product_lt (joined e f i) 1;
    at = λ x hx. forward-product (2 ^ e) 0 (joined e f) 1 x ∙ product_one (forward (2 ^ e) 0 (joined e f) x)
        (forward_lt (2 ^ e) 0 (joined e f) x) ∙ joined-at e f x he words hx;
    last = ap (λ w. product w 1) (joined-last e f) ∙ product_one (sum_below (2 ^ e) f)
        (sum_below_lt (2 ^ e) f (λ i h. words i));
  },
)

-- The values of a polynomial of fewer than 2 ^ e coefficients at the first 2 ^ e points have the sum zero.
pub sum_of_values : (e : ℕ) (h : List ℕ) → e ≤ 16 → length h < 2 ^ e → WordsOneByOne h
    → sum_below (2 ^ e) (value h) ≡ 0
sum_of_values e h he few words =
    let room : 2 ^ e ≤ 2 ^ 16 = pow_mono he in
    let (f, are) = coefficients_of e (value h) he (λ x. value_lt h x words) in
    let whole : length h + (2 ^ e - length h) ≡ 2 ^ e = omega arith in
    sym are.last
    ∙ no_terms_past (length h) (2 ^ e - length h) f h (omega arith) (λ i hi. are.word i) (λ i. length h) words
    (λ x hx. ap (λ n. forward n 0 f x) whole ∙ are.at x (omega arith)) (2 ^ e - 1) (omega arith) (omega arith)
