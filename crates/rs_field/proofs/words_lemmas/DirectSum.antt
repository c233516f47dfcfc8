-- The word at an erased point is the direct sum over the received points.
use Rattle.std.proofs.Common.{◌≡◌, ℕ, zero, suc, ◌+◌, ◌-◌, ◌%◌, ◌^◌, ◌<◌, ◌≤◌, ◌≢◌, ◌⊎◌, Bool, true, false, cond, List}
use Rattle.std.proofs.Common.{[], ◌∷◌, length, bit_xor, refl, sym, ap, ap₂, ◌∙◌, arith, inl, inr, pow_mono, subst}
use Rattle.std.specs.Int.Bits.{xor_comm, xor_assoc, xor_self, xor_zero_l, xor_zero_r, xor_lt}
use Rattle.std.proofs.lemmas.Bool.{cases_eq, cases_Bool}
use Rattle.std.proofs.lemmas.Nat.{pow_pos}
use Rattle.std.proofs.lemmas.Grind.{common_steps}
use Rattle.rs_field.specs.words.Field.{product, power, log}
use Rattle.rs_field.specs.words.Polynomial.{value, derivative_value}
use Rattle.rs_field.specs.words.Transform.{sum_below}
use Rattle.rs_field.specs.words.Locator.{log_sum, IsLocatorBelow}
use Rattle.rs_field.specs.words.DirectSum.{direct_factor, direct_term, direct_sum}
use Rattle.rs_field.proofs.words_lemmas.Product.{product_lt, product_zero, zero_product, product_one, product_xor_left}
use Rattle.rs_field.proofs.words_lemmas.Total.{product-comm, product-assoc}
use Rattle.rs_field.proofs.words_lemmas.Inverse.{product_cancel}
use Rattle.rs_field.proofs.words_lemmas.Power.{power_lt, power_pos, power-add, power-mod, power-log, power_turn, log_lt}
use Rattle.rs_field.proofs.words_lemmas.Roots.{WordsOneByOne, value_lt, value-nil, same_from_xor}
use Rattle.rs_field.proofs.words_lemmas.Values.{same_from_values}
use Rattle.rs_field.proofs.words_lemmas.Factors.{times, with_root, value_with_root, length-with_root, words_with_root}
use Rattle.rs_field.proofs.words_lemmas.Factors.{words_times}
use Rattle.rs_field.proofs.words_lemmas.Derivative.{derivative_with_root, derivative-nil}
use Rattle.rs_field.proofs.words_lemmas.Combination.{sum_below-suc, sum_below-same, sum_below-product, sum_below_lt}
use Rattle.rs_field.proofs.words_lemmas.LocatorLemmas.{difference_pos}
use Rattle.rs_field.proofs.words_lemmas.LocatorProduct.{marked, AreMarks, locator_value, locator_root}
use Rattle.rs_field.proofs.words_lemmas.LocatorProduct.{locator_derivative}
use Rattle.rs_field.proofs.words_lemmas.LocatorProduct.{length-marked_times, not_both, same_residue}
use Rattle.rs_field.proofs.words_lemmas.Division.{divided_by}
use Rattle.rs_field.proofs.words_lemmas.ExactCheck.{Takes}
use Rattle.rs_field.proofs.words_lemmas.PointValues.{sum_of_values}

-- ---- sums

-- If two functions differ at one number only, and the second one is zero there, their sums differ by the value there.
sum_below-one_more : (n y : ℕ) (f g : ℕ → ℕ) → y < n → g y ≡ 0 → ((x : ℕ) → x < n → x ≢ y → f x ≡ g x)
    → sum_below n f ≡ bit_xor (sum_below n g) (f y)
sum_below-one_more zero y f g hy none same = absurd (let no : ⊥ = omega arith in no)
sum_below-one_more (suc n) y f g hy none same =
    elim (cases_eq y n) [
      | inl last ↦
          sum_below-suc n f
          ∙ ap₂ bit_xor
          (sum_below-same n f g (λ x hx. same x (omega arith) (λ (e : x ≡ y). let no : ⊥ = omega arith in no)))
          (ap f (sym last))
          ∙ ap (λ w. bit_xor w (f y))
          (sym (sum_below-suc n g ∙ ap (bit_xor (sum_below n g)) (ap g (sym last) ∙ none)
          ∙ xor_zero_r (sum_below n g)))
      | inr other ↦
          sum_below-suc n f
          ∙ ap₂ bit_xor (sum_below-one_more n y f g (omega arith) none (λ x hx. same x (omega arith)))
          (same n (omega arith) (λ (e : n ≡ y). other (sym e)))
          ∙ xor_assoc (sum_below n g) (f y) (g n) ∙ ap (bit_xor (sum_below n g)) (xor_comm (f y) (g n))
          ∙ sym (xor_assoc (sum_below n g) (g n) (f y)) ∙ ap (λ w. bit_xor w (f y)) (sym (sum_below-suc n g))
    ]

-- If two functions differ at one number only, their sums differ by the sum of their values there.
sum_below-changed : (n z : ℕ) (f g : ℕ → ℕ) → z < n → ((x : ℕ) → x < n → x ≢ z → f x ≡ g x)
    → sum_below n f ≡ bit_xor (sum_below n g) (bit_xor (g z) (f z))
sum_below-changed zero z f g hz same = absurd (let no : ⊥ = omega arith in no)
sum_below-changed (suc n) z f g hz same =
    elim (cases_eq z n) [
      | inl last ↦
          sum_below-suc n f
          ∙ ap₂ bit_xor
          (sum_below-same n f g (λ x hx. same x (omega arith) (λ (e : x ≡ z). let no : ⊥ = omega arith in no)))
          (ap f (sym last) ∙ sym (xor_undone (g z) (f z)))
          ∙ sym (xor_assoc (sum_below n g) (g z) (bit_xor (g z) (f z)))
          ∙ ap (λ w. bit_xor w (bit_xor (g z) (f z)))
          (ap (λ v. bit_xor (sum_below n g) (g v)) last ∙ sym (sum_below-suc n g))
      | inr other ↦
          sum_below-suc n f
          ∙ ap₂ bit_xor (sum_below-changed n z f g (omega arith) (λ x hx. same x (omega arith)))
          (same n (omega arith) (λ (e : n ≡ z). other (sym e)))
          ∙ xor_assoc (sum_below n g) (bit_xor (g z) (f z)) (g n)
          ∙ ap (bit_xor (sum_below n g)) (xor_comm (bit_xor (g z) (f z)) (g n))
          ∙ sym (xor_assoc (sum_below n g) (g n) (bit_xor (g z) (f z)))
          ∙ ap (λ w. bit_xor w (bit_xor (g z) (f z))) (sym (sum_below-suc n g))
    ]
  where
    xor_undone : (a b : ℕ) → bit_xor a (bit_xor a b) ≡ b
    xor_undone a b = sym (xor_assoc a a b) ∙ ap (λ w. bit_xor w b) (xor_self a) ∙ xor_zero_l b

-- ---- a polynomial divided by one of its factors

-- The quotient of a polynomial of at most n coefficients by x + y, where y is a root. Its value at y is the derivative
-- of the polynomial there.
record IsQuotient (y n : ℕ) (h q : List ℕ) : Type 0 where
  degree : length q < n
  coefficients : WordsOneByOne q
  at : (x : ℕ) → value h x ≡ product (bit_xor x y) (value q x)
  there : value q y ≡ derivative_value h y

without_root : (y n : ℕ) (h : List ℕ) → y < n → n ≤ 2 ^ 16 → length h ≤ n → WordsOneByOne h → value h y ≡ 0
    → (q : List ℕ) × IsQuotient y n h q
unfolding times
without_root y n [] hy hn size words root = (
  [],
  record {
    degree = omega arith;
    coefficients = tt;
    at = λ x. grind (arith, common_steps, value-nil, product_zero);
    there = value-nil y ∙ sym (derivative-nil y);
  },
)
without_root y n (c ∷ cs) hy hn size words root =
    let (q, degree, coefficients, at) =
    divided_by 65536 (y ∷ []) (c ∷ cs) (length cs) (omega arith) (omega arith, tt) (omega arith) words (root, tt) in
    let same : c ∷ cs ≡ with_root y q =
    same_from_values (length (c ∷ cs)) (c ∷ cs) (with_root y q) refl (length-with_root y q ∙ ap suc degree) words
    (words_with_root y q coefficients) (λ i. i) (λ i hi. omega arith) (λ i j hi hj e. e) (λ i hi. at i) in (
      q,
      record {
        degree = omega arith;
        coefficients = coefficients;
        at = λ x. at x ∙ value_with_root y q x;
        there = sym (ap (λ (p : List ℕ). derivative_value p y) same ∙ derivative_with_root y q y
            ∙ ap (λ d. bit_xor (value q y) (product d (derivative_value q y))) (xor_self y)
            ∙ ap (bit_xor (value q y)) (zero_product (derivative_value q y)) ∙ xor_zero_r (value q y));
      },
    )

-- ---- the terms

-- A received point adds its word times its factor.
pub direct_term-received : (received : ℕ → Bool) (locator words : ℕ → ℕ) (y x : ℕ) → received x ≡ true
    → direct_term received locator words y x ≡ product (words x) (power (direct_factor locator x y))
direct_term-received received locator words y x is =
    ap (λ (t : Bool). cond t (product (words x) (power (direct_factor locator x y))) 0) is

-- A point that is not received adds 0.
pub direct_term-other : (received : ℕ → Bool) (locator words : ℕ → ℕ) (y x : ℕ) → received x ≡ false
    → direct_term received locator words y x ≡ 0
direct_term-other received locator words y x is =
    ap (λ (t : Bool). cond t (product (words x) (power (direct_factor locator x y))) 0) is

-- A term depends only on the word of its point, if the point is received.
pub direct_term-same : (received : ℕ → Bool) (locator f g : ℕ → ℕ) (y x : ℕ) → (received x ≡ true → f x ≡ g x)
    → direct_term received locator f y x ≡ direct_term received locator g y x
direct_term-same received locator f g y x same = elim (cases_Bool (received x)) [
  | inl is ↦ direct_term-received received locator f y x is
      ∙ ap (λ w. product w (power (direct_factor locator x y))) (same is)
      ∙ sym (direct_term-received received locator g y x is)
  | inr not ↦ direct_term-other received locator f y x not ∙ sym (direct_term-other received locator g y x not)
]

-- The sum depends only on the words of the received points.
pub direct_sum-same : (n : ℕ) (received : ℕ → Bool) (locator f g : ℕ → ℕ) (y : ℕ)
    → ((x : ℕ) → x < n → received x ≡ true → f x ≡ g x)
    → direct_sum n received locator f y ≡ direct_sum n received locator g y
unfolding direct_sum
direct_sum-same n received locator f g y same =
    sum_below-same n (λ x. direct_term received locator f y x) (λ x. direct_term received locator g y x)
    (λ x hx. direct_term-same received locator f g y x (same x hx))

-- If the word of one received point changes, the sum changes by this change times the factor of the point.
pub direct_sum-changed : (n : ℕ) (received : ℕ → Bool) (locator f g : ℕ → ℕ) (y z : ℕ) → z < n → received z ≡ true
    → ((x : ℕ) → x ≢ z → f x ≡ g x)
    → direct_sum n received locator f y
    ≡ bit_xor (direct_sum n received locator g y)
    (product (bit_xor (g z) (f z)) (power (direct_factor locator z y)))
unfolding direct_sum
direct_sum-changed n received locator f g y z hz is same =
    sum_below-changed n z (λ x. direct_term received locator f y x) (λ x. direct_term received locator g y x) hz
    (λ x hx apart. direct_term-same received locator f g y x (λ _. same x apart))
    ∙ ap (bit_xor (sum_below n (λ x. direct_term received locator g y x)))
    (ap₂ bit_xor (direct_term-received received locator g y z is) (direct_term-received received locator f y z is)
    ∙ sym (product_xor_left (g z) (f z) (power (direct_factor locator z y))))

-- The powers of 65535 minus a logarithm undo the power of the logarithm.
undone : (a d b : ℕ) → d ≤ 65535 → b ≤ 65535
    → product (product (power ((a + (65535 - d) + (65535 - b)) % 65535)) (power b)) (power d) ≡ power a
undone a d b hd hb =
    let parts : a + (65535 - d) + (65535 - b) + b + d ≡ a + 65535 + 65535 = omega arith in
    ap (λ w. product (product w (power b)) (power d)) (power-mod (a + (65535 - d) + (65535 - b)))
    ∙ ap (λ w. product w (power d)) (sym (power-add (a + (65535 - d) + (65535 - b)) b))
    ∙ sym (power-add (a + (65535 - d) + (65535 - b) + b) d) ∙ ap power parts
    ∙ power-add (a + 65535) 65535 ∙ ap₂ product (power-add a 65535) power_turn
    ∙ product_one (product (power a) (power 65535)) (product_lt (power a) (power 65535))
    ∙ ap (product (power a)) power_turn ∙ product_one (power a) (power_lt a)

-- A word times its factor, times the power of the locator at the erased point and the difference of the points, is the
-- word times the power of the locator at its own point.
factored : (w a b z : ℕ) → 0 < z → z < 2 ^ 16 → b ≤ 65535
    → product (product (product w (power ((a + (65535 - log z) + (65535 - b)) % 65535))) (power b)) z
    ≡ product (power a) w
factored w a b z pos hz hb =
    let f : ℕ = power ((a + (65535 - log z) + (65535 - b)) % 65535) in
    let small : log z < 65535 = log_lt z pos hz in
    ap (λ u. product u z) (product-assoc w f (power b)) ∙ product-assoc w (product f (power b)) z
    ∙ ap (λ u. product w (product (product f (power b)) u)) (sym (power-log z pos hz))
    ∙ ap (product w) (undone a (log z) b (omega arith) hb) ∙ product-comm w (power a)

-- The points whose words a direct sum adds: a point that is not marked is received or its word is zero, and a marked
-- point is not received.
pub record AreReceived (n : ℕ) (marks words : ℕ → ℕ) (received : ℕ → Bool) : Type 0 where
  pub added : (x : ℕ) → x < n → marks x ≡ 0 → (received x ≡ true) ⊎ (words x ≡ 0)
  pub erased : (x : ℕ) → x < n → marks x ≡ 1 → received x ≡ false

-- ---- the sum

-- A polynomial of b coefficients has the given words as values. If b and the number of marked points are together at
-- most the number of points, its value at each marked point is the direct sum.
pub direct_value : (e y : ℕ) {b : ℕ} {marks words : ℕ → ℕ} (locator : ℕ → ℕ) {received : ℕ → Bool} {q : List ℕ}
    → e ≤ 16 → AreMarks (2 ^ e) marks → length (marked (2 ^ e) marks) + b ≤ 2 ^ e → Takes (2 ^ e) b marks words q
    → AreReceived (2 ^ e) marks words received → IsLocatorBelow (2 ^ e) marks locator → locator y ≤ 65535 → y < 2 ^ e
    → marks y ≡ 1 → direct_sum (2 ^ e) received locator words y ≡ value q y
unfolding direct_sum
direct_value e y {b} {marks} {words} locator {received} {q} he m size takes are logs most hy one =
    by_quotient (without_root y (2 ^ e) (times (marked (2 ^ e) marks) q) hy room
    (omega (arith, length-marked_times (marked (2 ^ e) marks) q, takes.degree))
    (words_times (marked (2 ^ e) marks) q takes.coefficients) (locator_root q y m hy one))
  where
    room : 2 ^ e ≤ 2 ^ 16
    room = pow_mono he

    -- The power of the locator is the value of the locator's polynomial, or of its derivative.
    same : (x : ℕ) → x < 2 ^ e → power (log_sum (2 ^ e) marks x) ≡ power (locator x)
    same x hx = sym (same_residue (locator x) (log_sum (2 ^ e) marks x) (logs x hx))

    -- The term of a point.
    term : ℕ → ℕ
    term x = direct_term received locator words y x

    term-zero : (x : ℕ) → words x ≡ 0 → term x ≡ 0
    term-zero x is = grind (arith, common_steps, zero_product)

    term_lt : (x : ℕ) → term x < 2 ^ 16
    term_lt x = elim (cases_Bool (received x)) [
      | inl is ↦ subst (λ (w : ℕ). w < 2 ^ 16) (sym (direct_term-received received locator words y x is))
          (product_lt (words x) (power (direct_factor locator x y)))
      | inr not ↦ subst (λ (w : ℕ). w < 2 ^ 16) (sym (direct_term-other received locator words y x not)) (pow_pos 16)
    ]

    -- A term that is zero stays zero in the products.
    zero-term : (x : ℕ) → term x ≡ 0 → product (product (term x) (power (locator y))) (bit_xor x y) ≡ 0
    zero-term x none =
        ap (λ w. product (product w (power (locator y))) (bit_xor x y)) none
        ∙ ap (λ w. product w (bit_xor x y)) (zero_product (power (locator y))) ∙ zero_product (bit_xor x y)

    -- At each other point, the term times the locator's power and the difference is the located word.
    located-at : (x : ℕ) → x < 2 ^ e → x ≢ y → value (times (marked (2 ^ e) marks) q) x
        ≡ product (product (term x) (power (locator y))) (bit_xor x y)
    located-at x hx apart = elim (cases_eq (marks x) 0) [
      | inl none ↦
          locator_value q x room (omega (arith, room)) takes.coefficients m
          (λ z hz marked. not_both marks x z none marked)
          ∙ ap (product (power (log_sum (2 ^ e) marks x))) (takes.given x hx none)
          ∙ elim (are.added x hx none) [
            | inl is ↦ ap (λ w. product w (words x)) (same x hx)
                ∙ sym (ap (λ w. product (product w (power (locator y))) (bit_xor x y))
                (direct_term-received received locator words y x is)
                ∙ factored (words x) (locator x) (locator y) (bit_xor x y) (difference_pos x y (λ e. apart (sym e)))
                (xor_lt 16 x y (omega (arith, room)) (omega (arith, room))) most)
            | inr empty ↦ ap (product (power (log_sum (2 ^ e) marks x))) empty
                ∙ product_zero (power (log_sum (2 ^ e) marks x)) ∙ sym (zero-term x (term-zero x empty))
          ]
      | inr some ↦
          let erased : marks x ≡ 1 = (let most = m.mark x hx in omega arith) in
          locator_root q x m hx erased
          ∙ sym (zero-term x (direct_term-other received locator words y x (are.erased x hx erased)))
    ]

    -- At each other point, the term times the locator's power is the value of the quotient.
    term-at : (r : List ℕ) → IsQuotient y (2 ^ e) (times (marked (2 ^ e) marks) q) r → (x : ℕ) → x < 2 ^ e → x ≢ y
        → value r x ≡ product (term x) (power (locator y))
    term-at r quotient x hx apart =
        let d_lt : bit_xor x y < 2 ^ 16 = xor_lt 16 x y (omega (arith, room)) (omega (arith, room)) in
        product_cancel (bit_xor x y) (value r x) (product (term x) (power (locator y)))
        (difference_pos x y (λ e. apart (sym e))) d_lt (value_lt r x quotient.coefficients)
        (product_lt (term x) (power (locator y)))
        (product-comm (value r x) (bit_xor x y) ∙ sym (quotient.at x) ∙ located-at x hx apart)

    by_quotient : (r : List ℕ) × IsQuotient y (2 ^ e) (times (marked (2 ^ e) marks) q) r
        → direct_sum (2 ^ e) received locator words y ≡ value q y
    by_quotient (r, quotient) =
        let scale : ℕ = power (locator y) in
        let sum : ℕ = direct_sum (2 ^ e) received locator words y in
        let total : 0 ≡ bit_xor (product sum scale) (value r y) =
        sym (sum_of_values e r he quotient.degree quotient.coefficients)
        ∙ sum_below-one_more (2 ^ e) y (value r) (λ x. product (term x) scale) hy
        (ap (λ w. product w scale) (direct_term-other received locator words y y (are.erased y hy one))
        ∙ zero_product scale) (term-at r quotient)
        ∙ ap (λ w. bit_xor w (value r y)) (sum_below-product (2 ^ e) term scale) in
        product_cancel scale sum (value q y) (power_pos (locator y)) (power_lt (locator y))
        (sum_below_lt (2 ^ e) term (λ x hx. term_lt x)) (value_lt q y takes.coefficients)
        (same_from_xor (product sum scale) (value r y) (sym total)
        ∙ quotient.there ∙ locator_derivative q y room takes.coefficients m hy one
        ∙ ap (λ w. product w (value q y)) (same y hy) ∙ product-comm scale (value q y))
