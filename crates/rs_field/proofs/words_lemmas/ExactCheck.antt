-- Whether some polynomial has the given words as values, from the rows after the backward transform, for one column.
use Rattle.std.proofs.Common.{◌≡◌, ℕ, zero, suc, ◌+◌, ◌^◌, ◌<◌, ◌≤◌, List, [], ◌∷◌, length, sym, ap, ◌∙◌, arith}
use Rattle.std.proofs.lemmas.Bool.{cases_eq}
use Rattle.std.proofs.lemmas.Grind.{common_steps}
use Rattle.rs_field.specs.words.Field.{product, power}
use Rattle.rs_field.specs.words.Polynomial.{value}
use Rattle.rs_field.specs.words.Transform.{forward}
use Rattle.rs_field.specs.words.Locator.{log_sum}
use Rattle.rs_field.proofs.words_lemmas.Total.{product-comm}
use Rattle.rs_field.proofs.words_lemmas.Inverse.{product_cancel}
use Rattle.rs_field.proofs.words_lemmas.Power.{power_lt, power_pos}
use Rattle.rs_field.proofs.words_lemmas.Roots.{WordsOneByOne, words_from, value_lt}
use Rattle.rs_field.proofs.words_lemmas.Factors.{times, words_times}
use Rattle.rs_field.proofs.words_lemmas.LocatorProduct.{marked, marked-more, marked-same, AreMarks, locator_value}
use Rattle.rs_field.proofs.words_lemmas.LocatorProduct.{locator_root, length-marked_times, not_both}
use Rattle.rs_field.proofs.words_lemmas.Division.{AreFalling, AreRoots, divided_by}
use Rattle.rs_field.proofs.words_lemmas.Coefficients.{forward-fewer, polynomial_of_terms, no_terms_past}

-- The located words: zero at a marked point, and elsewhere the given word times the locator's power. The word at a
-- known zero is 0.
pub record AreLocated (n : ℕ) (marks words f : ℕ → ℕ) : Type 0 where
  pub erased : (x : ℕ) → x < n → marks x ≡ 1 → f x ≡ 0
  pub given : (x : ℕ) → x < n → marks x ≡ 0 → f x ≡ product (words x) (power (log_sum n marks x))

-- A polynomial of b coefficients has the given word as value at each point that is not marked.
pub record Takes (n b : ℕ) (marks words : ℕ → ℕ) (q : List ℕ) : Type 0 where
  pub degree : length q ≡ b
  pub coefficients : WordsOneByOne q
  pub given : (x : ℕ) → x < n → marks x ≡ 0 → value q x ≡ words x

-- ---- the marked points as roots

falling_more : (m n : ℕ) (r : List ℕ) → m ≤ n → AreFalling m r → AreFalling n r
falling_more m n [] le h = tt
falling_more m n (a ∷ r) le h = (omega (arith, h.0), h.1)

pub falling_marked : {n : ℕ} {marks : ℕ → ℕ} → AreMarks n marks → AreFalling n (marked n marks)
unfolding marked
falling_marked {n = zero} m = tt
falling_marked {n = suc n} {marks} m =
    grind (
      arith,
      common_steps,
      marked-more,
      marked-same,
      falling_more,
      cases_eq,
      falling_marked {n = n} {marks = marks} (record { mark = λ y hy. m.mark y (omega arith) }),
    )

pub roots_marked : {n : ℕ} {marks : ℕ → ℕ} (p : List ℕ) → AreMarks n marks
    → ((x : ℕ) → x < n → marks x ≡ 1 → value p x ≡ 0) → AreRoots p (marked n marks)
unfolding marked
roots_marked {n = zero} p m at = tt
roots_marked {n = suc n} {marks} p m at =
    let below = roots_marked {n = n} {marks = marks} p (record { mark = λ y hy. m.mark y (omega arith) })
    (λ x hx. at x (omega arith)) in
    grind (arith, common_steps, cases_eq, marked-more, marked-same, below)

-- ---- the located polynomial

-- If a polynomial has the given words as values, the polynomial with one more root at each marked point has the located
-- words as values.
pub located_values : {n b : ℕ} {marks words f : ℕ → ℕ} {q : List ℕ} → n ≤ 2 ^ 16 → AreMarks n marks
    → AreLocated n marks words f → Takes n b marks words q
    → (x : ℕ) → x < n → f x ≡ value (times (marked n marks) q) x
located_values hn m l h x hx =
    grind (arith, common_steps, cases_eq, locator_root, product-comm, locator_value, not_both)

-- ---- the check

-- If some polynomial has the given words as values, the rows after the marked points and its coefficients are zero.
pub zero_rows : {n : ℕ} (b t : ℕ) {marks words f F : ℕ → ℕ} → n ≤ 2 ^ 16 → AreMarks n marks
    → length (marked n marks) + b + t ≡ n → AreLocated n marks words f
    → ((x : ℕ) → x < n → F x < 2 ^ 16) → ((x : ℕ) → x < n → forward n 0 F x ≡ f x)
    → (q : List ℕ) × Takes n b marks words q → (i : ℕ) → n ≤ i + t → i < n → F i ≡ 0
zero_rows {n} b t {marks} {words} {f} {F} hn m count l word at (q, h) i above below =
    let k : ℕ = length (marked n marks) + b in
    let size : length (times (marked n marks) q) ≡ length (marked n marks) + b =
    length-marked_times (marked n marks) q ∙ omega arith in
    no_terms_past (length (marked n marks) + b) t F (times (marked n marks) q) (omega arith)
    (λ x hx. word x (omega arith)) size (words_times (marked n marks) q h.coefficients)
    (λ x hx. ap (λ k. forward k 0 F x) count ∙ at x (omega arith)
    ∙ located_values hn m l h x (omega arith)) i (omega arith) (omega arith)

-- If a polynomial with one more root at each marked point has the located words as values, the polynomial has the given
-- words as values.
divided_takes : {n b : ℕ} {marks words f : ℕ → ℕ} (h : List ℕ) → n ≤ 2 ^ 16 → AreMarks n marks
    → AreLocated n marks words f
    → ((x : ℕ) → x < n → marks x ≡ 0 → words x < 2 ^ 16) → ((x : ℕ) → x < n → value h x ≡ f x)
    → (q : List ℕ) × (length q ≡ b) × WordsOneByOne q × ((x : ℕ) → value h x ≡ value (times (marked n marks) q) x)
    → (q : List ℕ) × Takes n b marks words q
divided_takes h hn m l given same (q, size, are_words, at) =
    grind (arith, common_steps, product_cancel, power_pos, power_lt, value_lt, product-comm, locator_value, not_both)

-- If the last rows are zero, a polynomial with the number of the other rows as coefficients has the located words as
-- values.
few_coefficients : (n k t : ℕ) (f F : ℕ → ℕ) → n ≤ 2 ^ 16 → k + t ≡ n → ((x : ℕ) → x < n → forward n 0 F x ≡ f x)
    → ((i : ℕ) → n ≤ i + t → i < n → F i ≡ 0) → (h : List ℕ) × (length h ≡ k) × WordsOneByOne h
    × ((x : ℕ) → x < n → value h x ≡ f x)
few_coefficients n k t f F hn count at none =
    let (h, size, words, is) = polynomial_of_terms k F (omega arith) in (
      h,
      size,
      words_from h words,
      λ x hx.
          is x ∙ sym (forward-fewer k t F x (λ i a. none (k + i) (omega arith) (omega arith)))
          ∙ ap (λ j. forward j 0 F x) count ∙ at x hx,
    )

-- If the last rows are zero, some polynomial has the given words as values.
pub taken_from_zero_rows : {n : ℕ} (b t : ℕ) {marks words f F : ℕ → ℕ} → n ≤ 2 ^ 16 → AreMarks n marks
    → length (marked n marks) + b + t ≡ n → AreLocated n marks words f
    → ((x : ℕ) → x < n → marks x ≡ 0 → words x < 2 ^ 16) → ((x : ℕ) → x < n → forward n 0 F x ≡ f x)
    → ((i : ℕ) → n ≤ i + t → i < n → F i ≡ 0) → (q : List ℕ) × Takes n b marks words q
taken_from_zero_rows {n} b t {marks} {words} {f} {F} hn m count l given at none =
    let (h, size, are_words, same) = few_coefficients n (length (marked n marks) + b) t f F hn count at none in
    divided_takes h hn m l given same
    (divided_by n (marked n marks) h b hn (falling_marked m) size are_words
    (roots_marked h m (λ x hx one. same x hx ∙ l.erased x hx one)))
