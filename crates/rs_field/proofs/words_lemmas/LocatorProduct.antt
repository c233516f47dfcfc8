-- The locator as a polynomial: the values that its sums of logarithms represent.
use Rattle.std.proofs.Common.{◌≡◌, ℕ, zero, suc, ◌+◌, ◌-◌, ◌%◌, ◌^◌, ◌<◌, ◌≤◌, ◌≢◌, ◌⊎◌, Bool, cond, eqb, List, [], ◌∷◌}
use Rattle.std.proofs.Common.{length, bit_xor, sym, ap, ap₂, ◌∙◌, inl, inr, arith, add-zero, add-suc, ne_eqb, eq-eqb}
use Rattle.std.proofs.Common.{pow_mono}
use Rattle.std.specs.Int.Bits.{xor_self, xor_zero_l, xor_zero_r, xor_lt}
use Rattle.std.proofs.lemmas.Bool.{cases_eq}
use Rattle.std.proofs.lemmas.Grind.{common_steps}
use Rattle.rs_field.specs.words.Field.{product, power, log}
use Rattle.rs_field.specs.words.Polynomial.{value, derivative_value}
use Rattle.rs_field.specs.words.Locator.{log_sum}
use Rattle.rs_field.proofs.words_lemmas.Product.{product_zero, zero_product, product_one, one_product}
use Rattle.rs_field.proofs.words_lemmas.Total.{product-comm, product-assoc}
use Rattle.rs_field.proofs.words_lemmas.Power.{power-add, power-mod, power_zero, power-log, power_turn}
use Rattle.rs_field.proofs.words_lemmas.Roots.{WordsOneByOne, value_lt}
use Rattle.rs_field.proofs.words_lemmas.Factors.{times, value_with_root, length-with_root}
use Rattle.rs_field.proofs.words_lemmas.Derivative.{derivative_with_root}
use Rattle.rs_field.proofs.words_lemmas.LocatorLemmas.{log_sum-zero, log_sum-itself, log_sum-marked, log_sum-unmarked}
use Rattle.rs_field.proofs.words_lemmas.LocatorLemmas.{difference_pos}

-- The marked points below n, with the last one first.
unfoldable pub marked : ℕ → (ℕ → ℕ) → List ℕ
marked zero e = []
marked (suc n) e = cond (eqb (e n) 1) (n ∷ marked n e) (marked n e)

pub marked-more : (n : ℕ) (e : ℕ → ℕ) → e n ≡ 1 → marked (suc n) e ≡ n ∷ marked n e
unfolding marked
marked-more n e one = ap (λ (b : Bool). cond b (n ∷ marked n e) (marked n e)) (eq-eqb (e n) 1 one)

pub marked-same : (n : ℕ) (e : ℕ → ℕ) → e n ≡ 0 → marked (suc n) e ≡ marked n e
unfolding marked
marked-same n e none =
    ap (λ (b : Bool). cond b (n ∷ marked n e) (marked n e))
    (ne_eqb (e n) 1 (λ (one : e n ≡ 1). let no : ⊥ = omega arith in no))

-- Each of the first n points is marked or not marked.
pub record AreMarks (n : ℕ) (e : ℕ → ℕ) : Type 0 where
  pub mark : (y : ℕ) → y < n → e y ≤ 1

fewer : {n : ℕ} {e : ℕ → ℕ} → AreMarks (suc n) e → AreMarks n e
fewer h = record { mark = λ y hy. h.mark y (omega arith) }

mark_cases : {n : ℕ} {e : ℕ → ℕ} → AreMarks (suc n) e → (e n ≡ 1) ⊎ (e n ≡ 0)
mark_cases h = grind (arith, common_steps)

-- An unmarked point differs from each marked point.
pub not_both : (marks : ℕ → ℕ) (x y : ℕ) → marks x ≡ 0 → marks y ≡ 1 → y ≢ x
not_both marks x y none one e = let same : marks y ≡ marks x = ap marks e in omega arith

-- An unmarked point adds nothing to the sum of logarithms.
kept : (n : ℕ) (e : ℕ → ℕ) (x : ℕ) → e n ≡ 0 → log_sum (suc n) e x ≡ log_sum n e x
kept n e x none = elim
    (cases_eq n x) [ inl same ↦ log_sum-itself n e x same | inr differs ↦ log_sum-unmarked n e x none differs ]

-- A marked point other than x multiplies the power of the sum by the difference of x from this point.
grown : (n : ℕ) (e : ℕ → ℕ) (x : ℕ) → x < 2 ^ 16 → n < 2 ^ 16 → e n ≡ 1 → n ≢ x
    → power (log_sum (suc n) e x) ≡ product (power (log_sum n e x)) (bit_xor x n)
grown n e x hx hn one differs =
    ap power (log_sum-marked n e x one differs) ∙ power-add (log_sum n e x) (log (bit_xor x n))
    ∙ ap (product (power (log_sum n e x))) (power-log (bit_xor x n) (difference_pos x n differs) (xor_lt 16 x n hx hn))

moved_in : (s l w : ℕ) → product s (product l w) ≡ product (product l s) w
moved_in s l w = sym (product-assoc s l w) ∙ ap (λ k. product k w) (product-comm s l)

-- If x is not marked, the power of the sum of logarithms is the value of the polynomial with a root at each marked
-- point.
pub locator_value : {n : ℕ} {e : ℕ → ℕ} (p : List ℕ) (x : ℕ) → n ≤ 2 ^ 16 → x < 2 ^ 16 → WordsOneByOne p → AreMarks n e
    → ((y : ℕ) → y < n → e y ≡ 1 → y ≢ x) → value (times (marked n e) p) x ≡ product (power (log_sum n e x)) (value p x)
unfolding marked times
locator_value {n = zero} {e} p x hn hx w m apart =
    sym (ap (λ k. product k (value p x)) (ap power (log_sum-zero e x) ∙ power_zero)
    ∙ one_product (value p x) (value_lt p x w))
locator_value {n = suc n} {e} p x hn hx w m apart =
    let ih : value (times (marked n e) p) x ≡ product (power (log_sum n e x)) (value p x) =
    locator_value p x (omega arith) hx w (fewer m) (λ y hy. apart y (omega arith)) in
    elim (mark_cases m) [
      | inl one ↦
          ap (λ (r : List ℕ). value (times r p) x) (marked-more n e one) ∙ value_with_root n (times (marked n e) p) x
          ∙ ap (product (bit_xor x n)) ih ∙ moved_in (bit_xor x n) (power (log_sum n e x)) (value p x)
          ∙ ap (λ k. product k (value p x)) (sym (grown n e x hx (omega arith) one (apart n (omega arith) one)))
      | inr none ↦
          ap (λ (r : List ℕ). value (times r p) x) (marked-same n e none) ∙ ih
          ∙ ap (λ k. product (power k) (value p x)) (sym (kept n e x none))
    ]

-- At a marked point, the polynomial with a root at each marked point is zero.
pub locator_root : {n : ℕ} {e : ℕ → ℕ} (p : List ℕ) (x : ℕ) → AreMarks n e → x < n → e x ≡ 1
    → value (times (marked n e) p) x ≡ 0
unfolding marked times
locator_root {n = zero} p x m hx one = absurd (let no : ⊥ = omega arith in no)
locator_root {n = suc n} {e} p x m hx one =
    elim (mark_cases m) [
      | inl last ↦
          ap (λ (r : List ℕ). value (times r p) x) (marked-more n e last) ∙ value_with_root n (times (marked n e) p) x
          ∙ elim (cases_eq x n) [
            | inl same ↦ ap (λ k. product k (value (times (marked n e) p) x)) (ap (bit_xor x) (sym same) ∙ xor_self x)
                ∙ zero_product (value (times (marked n e) p) x)
            | inr differs ↦ ap (product (bit_xor x n)) (locator_root p x (fewer m) (omega arith) one)
                ∙ product_zero (bit_xor x n)
          ]
      | inr none ↦
          ap (λ (r : List ℕ). value (times r p) x) (marked-same n e none)
          ∙ locator_root p x (fewer m) (omega (arith, not_both e n x none one)) one
    ]

-- If x is marked, the power of the sum of logarithms is the derivative of the polynomial with a root at each marked
-- point.
pub locator_derivative : {n : ℕ} {e : ℕ → ℕ} (p : List ℕ) (x : ℕ) → n ≤ 2 ^ 16 → WordsOneByOne p → AreMarks n e → x < n
    → e x ≡ 1
    → derivative_value (times (marked n e) p) x ≡ product (power (log_sum n e x)) (value p x)
unfolding marked times
locator_derivative {n = zero} p x hn w m hx one = absurd (let no : ⊥ = omega arith in no)
locator_derivative {n = suc n} {e} p x hn w m hx one =
    elim (mark_cases m) [
      | inl last ↦
          ap (λ (r : List ℕ). derivative_value (times r p) x) (marked-more n e last)
          ∙ derivative_with_root n (times (marked n e) p) x
          ∙ elim (cases_eq x n) [
            | inl same ↦
                ap (λ k. bit_xor (value (times (marked n e) p) x) k)
                (ap (λ k. product k (derivative_value (times (marked n e) p) x))
                (ap (bit_xor x) (sym same) ∙ xor_self x) ∙ zero_product (derivative_value (times (marked n e) p) x))
                ∙ xor_zero_r (value (times (marked n e) p) x)
                ∙ locator_value p x (omega arith) (omega arith) w (fewer m)
                (λ y hy of_y. λ (at : y ≡ x). let no : ⊥ = omega arith in no)
                ∙ ap (λ k. product (power k) (value p x)) (sym (log_sum-itself n e x (sym same)))
            | inr differs ↦
                ap₂ bit_xor (locator_root p x (fewer m) (omega arith) one)
                (ap (product (bit_xor x n))
                (locator_derivative p x (omega arith) w (fewer m) (omega arith) one))
                ∙ xor_zero_l (product (bit_xor x n) (product (power (log_sum n e x)) (value p x)))
                ∙ moved_in (bit_xor x n) (power (log_sum n e x)) (value p x)
                ∙ ap (λ k. product k (value p x))
                (sym (grown n e x (omega arith) (omega arith) last (λ (at : n ≡ x). differs (sym at))))
          ]
      | inr none ↦
          ap (λ (r : List ℕ). derivative_value (times r p) x) (marked-same n e none)
          ∙ locator_derivative p x (omega arith) w (fewer m) (omega (arith, not_both e n x none one)) one
          ∙ ap (λ k. product (power k) (value p x)) (sym (kept n e x none))
    ]

pub length-marked_times : (r p : List ℕ) → length (times r p) ≡ length r + length p
unfolding times
length-marked_times [] p = omega arith
length-marked_times (a ∷ r) p = let e : length (times r p) ≡ length r + length p = length-marked_times r p in
    length-with_root a (times r p) ∙ omega arith

-- ---- points from 2 ^ d on

-- Points that are not marked add nothing to the sum of logarithms.
pub unmarked_past : (m n : ℕ) (e : ℕ → ℕ) (x : ℕ) → ((y : ℕ) → m ≤ y → y < m + n → e y ≡ 0)
    → log_sum (m + n) e x ≡ log_sum m e x
unmarked_past m zero e x none = ap (λ k. log_sum k e x) (add-zero m)
unmarked_past m (suc n) e x none =
    cc (
      add-suc m n,
      kept (m + n) e x (none (m + n) (omega arith) (omega arith)),
      unmarked_past m n e x
          (λ y a b. none y a (omega arith)),
    )

-- If no point from 2 ^ d on is marked, the sum over all points is the sum over the points below 2 ^ d.
pub none_marked_past : (d : ℕ) (e : ℕ → ℕ) (x : ℕ) → d ≤ 16 → ((y : ℕ) → 2 ^ d ≤ y → y < 65536 → e y ≡ 0)
    → log_sum 65536 e x ≡ log_sum (2 ^ d) e x
none_marked_past d e x hd none =
    grind (
      arith,
      common_steps,
      unmarked_past (2 ^ d) (65536 - 2 ^ d) e x
          (λ y a b. none y a (omega arith)),
      pow_mono hd,
    )

-- ---- powers of sums with equal residues modulo 65535

-- Sums with equal residues modulo 65535 have the same power.
pub same_residue : (l s : ℕ) → l % 65535 ≡ s % 65535 → power l ≡ power s
same_residue l s e = sym (power-mod l) ∙ ap power e ∙ power-mod s

-- The power for 65535 minus a logarithm is the inverse of the power for the logarithm.
pub residue_undone : (l w : ℕ) → l ≤ 65535 → w < 2 ^ 16 → product (product w (power l)) (power (65535 - l)) ≡ w
residue_undone l w hl hw =
    grind (
      arith,
      common_steps,
      product-assoc w (power l) (power (65535 - l)),
      power-add l
          (65535 - l),
      power_turn,
      product_one w hw,
    )
