-- The derivative of sums, of multiples, and of products of factors x + a. The derivative of a subspace polynomial is
-- one.
use Rattle.std.proofs.Common.{rules, ◌≡◌, ℕ, zero, suc, ◌+◌, ◌/◌, ◌^◌, ◌<◌, ◌≤◌, List, [], ◌∷◌, bit_xor, refl, sym, ap}
use Rattle.std.proofs.Common.{◌∙◌, subst, arith, add-zero, add-suc, zero-add, pow-suc, one-mul, pow_mono, ap₂}
use Rattle.std.specs.Int.Bits.{xor_comm, xor_assoc, xor_self, xor_zero_r, xor_lt, xor_shr, xor_shifted}
use Rattle.std.proofs.lemmas.Nat.{pow_pos, pow_below, shl-shr}
use Rattle.std.proofs.lemmas.Grind.{common_steps}
use Rattle.rs_field.specs.words.Field.{product}
use Rattle.rs_field.specs.words.Polynomial.{value, derivative_value}
use Rattle.rs_field.specs.words.Subspace.{product_below, subspace}
use Rattle.rs_field.proofs.words_lemmas.Linear.{xor_swap}
use Rattle.rs_field.proofs.words_lemmas.Product.{product_lt, product_zero, product_one, one_product, product_xor_left}
use Rattle.rs_field.proofs.words_lemmas.Product.{product_xor_right}
use Rattle.rs_field.proofs.words_lemmas.Total.{product-comm, product-left_comm}
use Rattle.rs_field.proofs.words_lemmas.Roots.{WordsOneByOne, value_lt}
use Rattle.rs_field.proofs.words_lemmas.Subspace.{product_below_lt, product_below-same, product_below-suc}
use Rattle.rs_field.proofs.words_lemmas.Subspace.{product_below-zero, product_below-add, subspace_shift}
use Rattle.rs_field.proofs.words_lemmas.Factors.{add, scale, with_root, points, times, value_add, value_scale}
use Rattle.rs_field.proofs.words_lemmas.Factors.{value-times}
use Rattle.rs_field.proofs.words_lemmas.RingSolver.{plus, v, times as both, by_algebra}

pub derivative-nil : (x : ℕ) → derivative_value [] x ≡ 0
unfolding derivative_value
derivative-nil x = refl

pub derivative-cons : (c : ℕ) (cs : List ℕ) (x : ℕ)
    → derivative_value (c ∷ cs) x ≡ bit_xor (value cs x) (product x (derivative_value cs x))
unfolding derivative_value
derivative-cons c cs x = refl

pub derivative_lt : (cs : List ℕ) (x : ℕ) → WordsOneByOne cs → derivative_value cs x < 2 ^ 16
unfolding derivative_value
derivative_lt [] x h = pow_pos 16
derivative_lt (c ∷ cs) x h =
    xor_lt 16 (value cs x) (product x (derivative_value cs x)) (value_lt cs x h.1)
    (product_lt x (derivative_value cs x))

-- The derivative of a sum is the sum of the derivatives.
pub derivative_add : (p q : List ℕ) (x : ℕ)
    → derivative_value (add p q) x ≡ bit_xor (derivative_value p x) (derivative_value q x)
unfolding derivative_value add
derivative_add [] q x = refl
derivative_add (a ∷ p) [] x = grind (arith, common_steps, xor_zero_r)
derivative_add (a ∷ p) (b ∷ q) x =
    grind (arith, common_steps, value_add, product_xor_right, xor_swap, derivative_add p q x)

-- The derivative of a multiple is the multiple of the derivative.
pub derivative_scale : (c : ℕ) (p : List ℕ) (x : ℕ) → derivative_value (scale c p) x ≡ product c (derivative_value p x)
unfolding derivative_value scale
derivative_scale c [] x = sym (product_zero c)
derivative_scale c (a ∷ p) x =
    grind (arith, common_steps, value_scale, product-left_comm, product_xor_right, derivative_scale c p x)

-- The derivative of a polynomial times x + a, by the product rule.
pub derivative_with_root : (a : ℕ) (p : List ℕ) (x : ℕ)
    → derivative_value (with_root a p) x ≡ bit_xor (value p x) (product (bit_xor x a) (derivative_value p x))
unfolding with_root
derivative_with_root a p x =
    grind (arith, common_steps, derivative_add, derivative-cons, derivative_scale, xor_assoc, product_xor_left)

-- ---- products of factors

-- The product of the factors at n points from a on.
abbrev factors : ℕ → ℕ → ℕ → ℕ
factors a n x = product_below n (λ i. bit_xor x (a + i))

factors-suc : (a n x : ℕ) → factors a (suc n) x ≡ product (factors a n x) (bit_xor x (a + n))
factors-suc a n x = product_below-suc n (λ i. bit_xor x (a + i))

factors_lt : (a n x : ℕ) → factors a n x < 2 ^ 16
factors_lt a n x = product_below_lt n (λ i. bit_xor x (a + i))

-- The derivative of the product of the factors at n points from a on, by the product rule.
abbrev slope : ℕ → ℕ → ℕ → ℕ
slope a zero x = 0
slope a (suc n) x = bit_xor (factors a n x) (product (bit_xor x (a + n)) (slope a n x))

slope_lt : (a n x : ℕ) → slope a n x < 2 ^ 16
slope_lt a zero x = pow_pos 16
slope_lt a (suc n) x =
    xor_lt 16 (factors a n x) (product (bit_xor x (a + n)) (slope a n x)) (factors_lt a n x)
    (product_lt (bit_xor x (a + n)) (slope a n x))

rule : (s f g p d : ℕ) → s < 2 ^ 16 → f < 2 ^ 16 → g < 2 ^ 16 → p < 2 ^ 16 → d < 2 ^ 16
    → bit_xor (product f p) (product s (bit_xor (product f d) (product g p)))
    ≡ bit_xor (product (product f s) d) (product (bit_xor f (product s g)) p)
rule s f g p d hs hf hg hp hd =
    by_algebra (s ∷ f ∷ g ∷ p ∷ d ∷ [])
    (plus (both (v 1) (v 3)) (both (v 0) (plus (both (v 1) (v 4)) (both (v 2) (v 3)))))
    (plus (both (both (v 1) (v 0)) (v 4)) (both (plus (v 1) (both (v 0) (v 2))) (v 3)))
    (hs, (hf, (hg, (hp, (hd, tt))))) refl

-- The derivative of a polynomial times the factors at n points, by the product rule.
derivative-times : (a n : ℕ) (p : List ℕ) → WordsOneByOne p → (x : ℕ) → x < 2 ^ 16 → a + n ≤ 2 ^ 16
    → derivative_value (times (points a n) p) x ≡ bit_xor (product (factors a n x) (derivative_value p x))
    (product (slope a n x) (value p x))
unfolding times points
derivative-times a zero p w x hx hn =
    grind (arith, common_steps, product_below-zero, one_product, derivative_lt, product-comm, product_zero)
derivative-times a (suc n) p w x hx hn =
    let s : ℕ = bit_xor x (a + n) in
    let s_lt : bit_xor x (a + n) < 2 ^ 16 = xor_lt 16 x (a + n) hx (omega arith) in
    derivative_with_root (a + n) (times (points a n) p) x
    ∙ ap₂ bit_xor (value-times a n p w x)
    (ap (product (bit_xor x (a + n))) (derivative-times a n p w x hx (omega arith)))
    ∙ rule (bit_xor x (a + n)) (factors a n x) (slope a n x) (value p x) (derivative_value p x)
    s_lt (factors_lt a n x) (slope_lt a n x) (value_lt p x w) (derivative_lt p x w)
    ∙ ap (λ z. bit_xor (product z (derivative_value p x)) (product (slope a (suc n) x) (value p x)))
    (sym (factors-suc a n x))

-- The product of m + n factors is the product of the first m factors times the product of the n next factors.
factors-add : (m n x : ℕ) → x < 2 ^ 16 → m + n ≤ 2 ^ 16 → factors 0 (m + n) x ≡ product (factors 0 m x) (factors m n x)
factors-add m n x hx h =
    product_below-add m n (λ i. bit_xor x (0 + i)) (λ i hi. xor_lt 16 x (0 + i) hx (omega arith))
    ∙ ap (product (product_below m (λ i. bit_xor x (0 + i))))
    (product_below-same n (λ i. bit_xor x (0 + (m + i))) (λ i. bit_xor x (m + i))
    (λ i hi. ap (bit_xor x) (zero-add (m + i))))

sum_rule : (s f g d e : ℕ) → s < 2 ^ 16 → f < 2 ^ 16 → g < 2 ^ 16 → d < 2 ^ 16 → e < 2 ^ 16
    → bit_xor (product f g) (product s (bit_xor (product d g) (product f e)))
    ≡ bit_xor (product d (product g s)) (product f (bit_xor g (product s e)))
sum_rule s f g d e hs hf hg hd he =
    by_algebra (s ∷ f ∷ g ∷ d ∷ e ∷ [])
    (plus (both (v 1) (v 2)) (both (v 0) (plus (both (v 3) (v 2)) (both (v 1) (v 4)))))
    (plus (both (v 3) (both (v 2) (v 0))) (both (v 1) (plus (v 2) (both (v 0) (v 4)))))
    (hs, (hf, (hg, (hd, (he, tt))))) refl

slope-add : (m n x : ℕ) → x < 2 ^ 16 → m + n ≤ 2 ^ 16
    → slope 0 (m + n) x ≡ bit_xor (product (slope 0 m x) (factors m n x)) (product (factors 0 m x) (slope m n x))
slope-add m zero x hx h = grind (arith, common_steps, add-zero, product_below-zero, product_one, slope_lt, product_zero)
slope-add m (suc n) x hx h =
    let less : m + n ≤ 2 ^ 16 = omega arith in
    let s_lt : bit_xor x (m + n) < 2 ^ 16 = xor_lt 16 x (m + n) hx (omega arith) in
    ap (λ k. slope 0 k x) (add-suc m n)
    ∙ ap₂ bit_xor (factors-add m n x hx less)
    (ap₂ product (ap (bit_xor x) (zero-add (m + n))) (slope-add m n x hx less))
    ∙ sum_rule (bit_xor x (m + n)) (factors 0 m x) (factors m n x) (slope 0 m x) (slope m n x)
    s_lt (factors_lt 0 m x) (factors_lt m n x) (slope_lt 0 m x) (slope_lt m n x)
    ∙ ap (λ z. bit_xor (product (slope 0 m x) z) (product (factors 0 m x) (slope m (suc n) x)))
    (sym (factors-suc m n x))

-- The points from 2 ^ e on are the points from 0 on, each XOR 2 ^ e.
moved_point : (e i x : ℕ) → i < 2 ^ e → bit_xor x (2 ^ e + i) ≡ bit_xor (bit_xor x (2 ^ e)) (0 + i)
moved_point e i x h = cc (one-mul (2 ^ e), xor_shifted 1 e i h, zero-add i, xor_assoc x (2 ^ e) (0 + i))

factors-moved : (e n x : ℕ) → n ≤ 2 ^ e → factors (2 ^ e) n x ≡ factors 0 n (bit_xor x (2 ^ e))
factors-moved e n x h =
    product_below-same n (λ i. bit_xor x (2 ^ e + i)) (λ i. bit_xor (bit_xor x (2 ^ e)) (0 + i))
    (λ i hi. moved_point e i x (omega arith))

slope-moved : (e n x : ℕ) → n ≤ 2 ^ e → slope (2 ^ e) n x ≡ slope 0 n (bit_xor x (2 ^ e))
slope-moved e zero x h = refl
slope-moved e (suc n) x h = grind (arith, common_steps, factors-moved, moved_point, slope-moved e n x (omega arith))

-- ---- subspace polynomials

factors_subspace : (e x : ℕ) → factors 0 (2 ^ e) x ≡ subspace e x
unfolding subspace
factors_subspace e x =
    product_below-same (2 ^ e) (λ i. bit_xor x (0 + i)) (λ y. bit_xor x y) (λ i h. ap (bit_xor x) (zero-add i))

factors_lower : (e x : ℕ) → e ≤ 16 → x < 2 ^ 16 → factors 0 (2 ^ e) x ≡ x / 2 ^ e
factors_lower e x he hx = factors_subspace e x ∙ subspace_shift e x he hx

-- Each subspace polynomial has derivative one.
slope_subspace : (e x : ℕ) → e ≤ 16 → x < 2 ^ 16 → slope 0 (2 ^ e) x ≡ 1
slope_subspace zero x he hx = search (rules, product_below-zero, product_zero)
slope_subspace (suc e) x he hx =
    let n : ℕ = 2 ^ e in
    let bit : 2 ^ e < 2 ^ 16 = pow_below e 16 he in
    let y_lt : bit_xor x (2 ^ e) < 2 ^ 16 = xor_lt 16 x (2 ^ e) hx bit in
    let double : 2 ^ suc e ≡ 2 ^ e + 2 ^ e = omega (arith, pow-suc 2 e) in
    let room : 2 ^ suc e ≤ 2 ^ 16 = pow_mono he in
    let quotient_lt : x / 2 ^ e < 2 ^ 16 =
    subst (λ (k : ℕ). k < 2 ^ 16) (factors_lower e x (omega arith) hx) (factors_lt 0 (2 ^ e) x) in
    let one : 2 ^ e / 2 ^ e ≡ 1 = ap (λ k. k / 2 ^ e) (sym (one-mul (2 ^ e))) ∙ shl-shr 1 e in
    ap (λ k. slope 0 k x) double
    ∙ slope-add (2 ^ e) (2 ^ e) x hx (omega arith)
    ∙ ap₂ bit_xor
    (ap₂ product (slope_subspace e x (omega arith) hx)
    (factors-moved e (2 ^ e) x (omega arith) ∙ factors_lower e (bit_xor x (2 ^ e)) (omega arith) y_lt
    ∙ xor_shr x (2 ^ e) e ∙ ap (bit_xor (x / 2 ^ e)) one)
    ∙ one_product (bit_xor (x / 2 ^ e) 1) (xor_lt 16 (x / 2 ^ e) 1 quotient_lt (omega arith)))
    (ap₂ product (factors_lower e x (omega arith) hx)
    (slope-moved e (2 ^ e) x (omega arith) ∙ slope_subspace e (bit_xor x (2 ^ e)) (omega arith) y_lt)
    ∙ product_one (x / 2 ^ e) quotient_lt)
    ∙ xor_comm (bit_xor (x / 2 ^ e) 1) (x / 2 ^ e) ∙ sym (xor_assoc (x / 2 ^ e) (x / 2 ^ e) 1)
    ∙ ap (λ k. bit_xor k 1) (xor_self (x / 2 ^ e))

-- The derivative of a polynomial times the subspace polynomial e: the second term of the product rule is the polynomial
-- itself.
pub derivative-subspace : (e : ℕ) (p : List ℕ) → e < 16 → WordsOneByOne p → (x : ℕ) → x < 2 ^ 16
    → derivative_value (times (points 0 (2 ^ e)) p) x ≡ bit_xor (product (subspace e x) (derivative_value p x))
    (value p x)
derivative-subspace e p he w x hx =
    search (rules, pow_below, derivative-times, factors_subspace, slope_subspace, one_product, value_lt)
