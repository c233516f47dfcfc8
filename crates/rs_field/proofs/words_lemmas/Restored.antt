-- The words that a decode restores: at a marked point, the polynomial plus its derivative is the locator's factor times
-- the polynomial that was coded.
use Rattle.std.proofs.Common.{◌≡◌, ℕ, ◌+◌, ◌-◌, ◌^◌, ◌<◌, ◌≤◌, List, length, bit_xor, sym, ap, ap₂, ◌∙◌, arith}
use Rattle.std.proofs.Common.{pow_mono}
use Rattle.std.specs.Int.Bits.{xor_zero_l}
use Rattle.rs_field.specs.words.Field.{product, power}
use Rattle.rs_field.specs.words.Polynomial.{value}
use Rattle.rs_field.specs.words.Transform.{forward}
use Rattle.rs_field.specs.words.Locator.{log_sum}
use Rattle.rs_field.specs.words.Derivative.{IsInBasis, IsDerivativeAdded}
use Rattle.rs_field.proofs.words_lemmas.Roots.{WordsOneByOne, words_from}
use Rattle.rs_field.proofs.words_lemmas.Values.{same_from_values}
use Rattle.rs_field.proofs.words_lemmas.Factors.{times, words_times, all_words}
use Rattle.rs_field.proofs.words_lemmas.Coefficients.{polynomial_of_terms}
use Rattle.rs_field.proofs.words_lemmas.Padding.{padded, length-padded, words_padded, value-padded, derivative-padded}
use Rattle.rs_field.proofs.words_lemmas.LocatorProduct.{marked, AreMarks, locator_root, locator_derivative}
use Rattle.rs_field.proofs.words_lemmas.LocatorProduct.{length-marked_times}

-- Coefficients in the subspace basis that give the values of a polynomial at the first 2 ^ e points give its values at
-- every point.
pub in_basis : (e : ℕ) (f : ℕ → ℕ) (p : List ℕ) → e ≤ 16 → length p ≡ 2 ^ e → WordsOneByOne p
    → ((i : ℕ) → i < 2 ^ e → forward (2 ^ e) 0 f i ≡ value p i) → IsInBasis (2 ^ e) f p
in_basis e f p he size words at x hx =
    let room : 2 ^ e ≤ 2 ^ 16 = pow_mono he in
    let q = polynomial_of_terms (2 ^ e) f room in
    let same : p ≡ q.0 =
    same_from_values (2 ^ e) p q.0 size q.1 words (words_from q.0 q.2) (λ i. i) (λ i hi. omega arith)
    (λ i j hi hj k. k) (λ i hi. sym (at i hi) ∙ sym (q.3 i)) in
    sym (q.3 x) ∙ ap (λ (r : List ℕ). value r x) (sym same)

-- The rows f are the coefficients of a polynomial p with one more root at each marked point, and the rows g are those
-- after
-- the derivative step. The value of g at a marked point is the value of p there, times the power of the locator.
pub restored : (e : ℕ) (f g : ℕ → ℕ) {marks : ℕ → ℕ} (p : List ℕ) → e ≤ 16 → WordsOneByOne p → AreMarks (2 ^ e) marks
    → length (marked (2 ^ e) marks) + length p ≤ 2 ^ e
    → ((i : ℕ) → i < 2 ^ e → forward (2 ^ e) 0 f i ≡ value (times (marked (2 ^ e) marks) p) i)
    → IsDerivativeAdded (2 ^ e) f g
    → (x : ℕ) → x < 2 ^ e → marks x ≡ 1 → forward (2 ^ e) 0 g x ≡ product (power (log_sum (2 ^ e) marks x)) (value p x)
restored e f g {marks} p he words m size at step x hx one =
    let room : 2 ^ e ≤ 2 ^ 16 = pow_mono he in
    let h : List ℕ = times (marked (2 ^ e) marks) p in
    let n : ℕ = 2 ^ e - length (times (marked (2 ^ e) marks) p) in
    let h_size : length (times (marked (2 ^ e) marks) p) ≡ length (marked (2 ^ e) marks) + length p =
    length-marked_times (marked (2 ^ e) marks) p in
    let full : length (padded n h) ≡ 2 ^ e = length-padded n h ∙ omega arith in
    let full_words : WordsOneByOne (padded n h) = words_padded n h (words_times (marked (2 ^ e) marks) p words) in
    step (padded n h) full (all_words (padded n h) full_words)
    (in_basis e f (padded n h) he full full_words (λ i hi. at i hi ∙ sym (value-padded n h i))) x (omega arith)
    ∙ ap₂ bit_xor (value-padded n h x ∙ locator_root p x m hx one)
    (derivative-padded n h x ∙ locator_derivative p x room words m hx one)
    ∙ xor_zero_l (product (power (log_sum (2 ^ e) marks x)) (value p x))
