-- The powers of the generator: each nonzero word is one of 65535 powers.
use Rattle.std.proofs.Common.{◌≡◌, ℕ, zero, suc, ◌+◌, ◌-◌, ◌*◌, ◌/◌, ◌%◌, ◌^◌, ◌<◌, ◌≢◌, Bool, true, false, ◌||◌, eqb}
use Rattle.std.proofs.Common.{refl, sym, ap, ap₂, ◌∙◌, subst, arith, inl, inr, add-suc, add-zero, mul-zero, mul-suc}
use Rattle.std.proofs.Common.{one-mul, mul_assoc, add-one, add-mul, mul_right_comm, true≢false, lit<, mod-lt, eqb-true}
use Rattle.std.proofs.Common.{ne_eqb, eq-eqb}
use Rattle.std.proofs.Math.Nat.{mod-add-div}
use Rattle.std.proofs.lemmas.Nat.{shr_below, mul-mod_first}
use Rattle.std.proofs.lemmas.Bool.{cases_eq, cases_order}
use Rattle.std.proofs.lemmas.Grind.{common_steps}
use Rattle.rs_field.specs.words.Field.{combine, cantor_basis, bits, monomials, from_bits, carryless, reduce, product}
use Rattle.rs_field.specs.words.Field.{nth_power, power, generator, log}
use Rattle.rs_field.proofs.words_lemmas.Search.{first_below-passes, first_below_most}
use Rattle.rs_field.proofs.words_lemmas.Linear.{passes_below, from_passes_below}
use Rattle.rs_field.proofs.words_lemmas.Product.{product_lt, product_comm, product_assoc, product_one, one_product}
use Rattle.rs_field.proofs.words_lemmas.Onto.{onto}
use Rattle.rs_field.proofs.words_lemmas.Inverse.{product_cancel, product_pos}

pub raised_lt : (x n : ℕ) → nth_power x n < 2 ^ 16
unfolding nth_power
raised_lt x zero = omega arith
raised_lt x (suc n) = product_lt _ x

pub nth_power-add : (x m n : ℕ) → x < 2 ^ 16 → nth_power x (m + n) ≡ product (nth_power x m) (nth_power x n)
unfolding nth_power
nth_power-add x m zero hx = ap (nth_power x) (add-zero m) ∙ sym (product_one (nth_power x m) (raised_lt x m))
nth_power-add x m (suc n) hx =
    ap (nth_power x) (add-suc m n) ∙ ap (λ v. product v x) (nth_power-add x m n hx)
    ∙ product_assoc (nth_power x m) (nth_power x n) x (raised_lt x m) (raised_lt x n) hx

pub nth_power-mul : (x m n : ℕ) → x < 2 ^ 16 → nth_power (nth_power x m) n ≡ nth_power x (m * n)
unfolding nth_power
nth_power-mul x m zero hx = ap (nth_power x) (sym (mul-zero m))
nth_power-mul x m (suc n) hx =
    ap (λ v. product v (nth_power x m)) (nth_power-mul x m n hx) ∙ sym (nth_power-add x (m * n) m hx)
    ∙ ap (nth_power x) (sym (mul-suc m n))

pub one_raised : (n : ℕ) → nth_power 1 n ≡ 1
unfolding nth_power
one_raised zero = refl
one_raised (suc n) = ap (λ v. product v 1) (one_raised n) ∙ product_one 1 (omega arith)

raised_two : (x : ℕ) → x < 2 ^ 16 → nth_power x 2 ≡ product x x
unfolding nth_power
raised_two x hx = ap (λ v. product v x) (one_product x hx)

-- The power by repeated squaring, for an exponent of k bits.
unfoldable fast : ℕ → ℕ → ℕ → ℕ
fast zero x n = 1
fast (suc k) x n = product (nth_power x (n % 2)) (fast k (product x x) (n / 2))

fast_is : (k x n : ℕ) → x < 2 ^ 16 → n < 2 ^ k → fast k x n ≡ nth_power x n
unfolding fast nth_power
fast_is zero x n hx hn = let z : 0 ≡ n = omega arith in ap (nth_power x) z
fast_is (suc k) x n hx hn =
    let half : n / 2 < 2 ^ k = shr_below n k 1 (subst (λ (j : ℕ). n < 2 ^ j) (sym (add-one k)) hn) in
    let whole : n % 2 + 2 * (n / 2) ≡ n = omega arith in
    cc (
      fast_is k (product x x) (n / 2) (product_lt x x) half,
      raised_two x hx,
      nth_power-mul x 2
          (n / 2) hx,
      nth_power-add x (n % 2) (2 * (n / 2)) hx,
    )

pub generator_lt : generator < 2 ^ 16
unfolding generator
generator_lt = omega arith

expand : (p q t : ℕ) → (1 + p * t) * q ≡ q + (p * q) * t
expand p q t = add-mul 1 (p * t) q ∙ ap₂ (λ (a b : ℕ). a + b) (one-mul q) (mul_right_comm p t q)

generator_pos : 0 < generator
unfolding generator
generator_pos = omega arith

-- The power 65535 of the generator is 1, and the powers for 65535 divided by one prime factor are not 1.
check_powers : (fast 16 generator 65535 ≡ 1) × (eqb (fast 16 generator 21845) 1 ≡ false)
    × (eqb (fast 16 generator 13107) 1 ≡ false)
    × (eqb (fast 16 generator 3855) 1 ≡ false) × (eqb (fast 16 generator 255) 1 ≡ false)
unfolding fast nth_power generator combine bits from_bits cantor_basis monomials carryless reduce product
check_powers = (refl, refl, refl, refl, refl)

power_is : (n : ℕ) → n < 2 ^ 16 → fast 16 generator n ≡ power n
unfolding power
power_is n hn = fast_is 16 generator n generator_lt hn

pub power_turn : power 65535 ≡ 1
power_turn = sym (power_is 65535 (lit< tt)) ∙ check_powers.0

not_one : (n : ℕ) → n < 2 ^ 16 → eqb (fast 16 generator n) 1 ≡ false → power n ≢ 1
not_one n hn test e = grind (arith, common_steps, power_is, true≢false)

-- ---- if a power is 1, then 3, 5, 17 and 257 divide its exponent

-- Each number that p does not divide has an inverse modulo p, by Fermat's theorem.
unfoldable has_inverses : ℕ → Bool
has_inverses p = passes_below p (λ r. eqb r 0 || eqb (r * r ^ (p - 2) % p) 1)

check_inverses : (has_inverses 3 ≡ true) × (has_inverses 5 ≡ true) × (has_inverses 17 ≡ true)
    × (has_inverses 257 ≡ true)
unfolding has_inverses passes_below
check_inverses = (refl, refl, refl, refl)

-- If power k is 1 and p does not divide k, power q is 1. Here p * q is 65535.
unit_from : (p q k m t : ℕ) → p * q ≡ 65535 → k * m ≡ 1 + p * t → power k ≡ 1 → power q ≡ 1
unfolding power
unit_from p q k m t whole bezout one =
    let exponent : k * (m * q) ≡ q + 65535 * t =
    sym (mul_assoc k m q) ∙ ap (λ v. v * q) bezout ∙ expand p q t ∙ ap (λ v. q + v * t) whole in
    let left : nth_power generator (k * (m * q)) ≡ 1 = sym (nth_power-mul generator k (m * q) generator_lt)
    ∙ ap (λ v. nth_power v (m * q)) one ∙ one_raised (m * q) in
    let right : nth_power generator (q + 65535 * t) ≡ nth_power generator q =
    nth_power-add generator q (65535 * t) generator_lt
    ∙ ap (product (nth_power generator q))
    (sym (nth_power-mul generator 65535 t generator_lt) ∙ ap (λ v. nth_power v t) power_turn ∙ one_raised t)
    ∙ product_one (nth_power generator q) (raised_lt generator q) in
    sym right ∙ ap (nth_power generator) (sym exponent) ∙ left

dividend : (n p : ℕ) → n % p ≡ 1 → n ≡ 1 + p * (n / p)
dividend n p e = sym (mod-add-div n p) ∙ ap (λ v. v + p * (n / p)) e

inverse_of : (p r : ℕ) → has_inverses p ≡ true → r < p → r ≢ 0 → r * r ^ (p - 2) % p ≡ 1
unfolding has_inverses
inverse_of p r h hr apart =
    eqb-true (r * r ^ (p - 2) % p) 1
    (rw (ne_eqb r 0 apart) at (from_passes_below p (λ r. eqb r 0 || eqb (r * r ^ (p - 2) % p) 1) h r hr))

divided : (p q k : ℕ) → p * q ≡ 65535 → 0 < p → has_inverses p ≡ true → power q ≢ 1 → power k ≡ 1 → k % p ≡ 0
divided p q k whole pos h apart one =
    elim (cases_eq (k % p) 0) [
      | inl e ↦ e
      | inr nonzero ↦
          let m : ℕ = (k % p) ^ (p - 2) in
          let unit : k * m % p ≡ 1 = sym (mul-mod_first k m p) ∙ inverse_of p (k % p) h (mod-lt k pos) nonzero in
          absurd (apart (unit_from p q k m (k * m / p) whole (dividend (k * m) p unit) one))
    ]

-- Below 65535, only 0 is a multiple of 3, 5, 17 and 257.
all_four : (k : ℕ) → k < 65535 → k % 3 ≡ 0 → k % 5 ≡ 0 → k % 17 ≡ 0 → k % 257 ≡ 0 → k ≡ 0
all_four k h a b c d = omega arith

pub order : (k : ℕ) → k < 65535 → power k ≡ 1 → k ≡ 0
order k hk one =
    all_four k hk
    (divided 3 21845 k refl (lit< tt) check_inverses.0 (not_one 21845 (lit< tt) check_powers.1) one)
    (divided 5 13107 k refl (lit< tt) check_inverses.1 (not_one 13107 (lit< tt) check_powers.2) one)
    (divided 17 3855 k refl (lit< tt) check_inverses.2 (not_one 3855 (lit< tt) check_powers.3) one)
    (divided 257 255 k refl (lit< tt) check_inverses.3 (not_one 255 (lit< tt) check_powers.4) one)

pub power_lt : (n : ℕ) → power n < 2 ^ 16
unfolding power
power_lt n = raised_lt generator n

pub power-add : (m n : ℕ) → power (m + n) ≡ product (power m) (power n)
unfolding power
power-add m n = nth_power-add generator m n generator_lt

pub power_zero : power 0 ≡ 1
unfolding power nth_power
power_zero = refl

pub power-suc : (n : ℕ) → power (suc n) ≡ product (power n) generator
unfolding power nth_power
power-suc n = refl

pub power_pos : (n : ℕ) → 0 < power n
unfolding power nth_power
power_pos zero = lit< tt
power_pos (suc n) = product_pos (power n) generator (power_pos n) generator_pos (power_lt n) generator_lt

-- Two different exponents below 65535 have different powers.
power_apart : (i j : ℕ) → i < j → j < 65535 → power i ≡ power j → ⊥
power_apart i j hij hj e =
    let gap : i + (j - i) ≡ j = omega arith in
    let same : product 1 (power i) ≡ product (power (j - i)) (power i) =
    one_product (power i) (power_lt i) ∙ e ∙ ap power (sym gap) ∙ power-add i (j - i)
    ∙ product_comm (power i) (power (j - i)) (power_lt i) (power_lt (j - i)) in
    let one : 1 ≡ power (j - i) =
    product_cancel (power i) 1 (power (j - i)) (power_pos i) (power_lt i) (lit< tt) (power_lt (j - i)) same in
    let none : j - i ≡ 0 = order (j - i) (omega arith) (sym one) in
    omega arith

pub power_injective : (i j : ℕ) → i < 65535 → j < 65535 → power i ≡ power j → i ≡ j
power_injective i j hi hj e = grind (arith, common_steps, cases_order, power_apart)

-- Each nonzero word is a power of the generator.
pub power_onto : (z : ℕ) → 0 < z → z < 2 ^ 16 → (n : ℕ) × (n < 65535) × (power n ≡ z)
power_onto z pos hz =
    let (n, hn, e) = onto 65535 (λ n. power n - 1) within once (z - 1) (omega arith) in
    (n, hn, omega (arith, power_pos n))
  where
    within : (i : ℕ) → i < 65535 → power i - 1 < 65535
    within i hi = omega (arith, power_pos i, power_lt i)

    once : (i j : ℕ) → i < 65535 → j < 65535 → power i - 1 ≡ power j - 1 → i ≡ j
    once i j hi hj e = power_injective i j hi hj (omega (arith, power_pos i, power_pos j))

-- ---- logarithms

log_found : (z : ℕ) → 0 < z → z < 2 ^ 16 → (log z < 65535) × (eqb (power (log z)) z ≡ true)
unfolding log
log_found z pos hz =
    let (n, hn, e) = power_onto z pos hz in
    let most = first_below_most 65535 (λ n. eqb (power n) z) n hn (eq-eqb (power n) z e) in
    (omega arith, first_below-passes 65535 (λ n. eqb (power n) z) (omega arith))

pub log_lt : (z : ℕ) → 0 < z → z < 2 ^ 16 → log z < 65535
log_lt z pos hz = (log_found z pos hz).0

pub power-log : (z : ℕ) → 0 < z → z < 2 ^ 16 → power (log z) ≡ z
power-log z pos hz = eqb-true (power (log z)) z ((log_found z pos hz).1)

turns : (t : ℕ) → power (65535 * t) ≡ 1
unfolding power
turns t = sym (nth_power-mul generator 65535 t generator_lt) ∙ ap (λ v. nth_power v t) power_turn ∙ one_raised t

-- An exponent can be reduced modulo 65535.
pub power-mod : (n : ℕ) → power (n % 65535) ≡ power n
power-mod n = grind (arith, common_steps, product_one, power_lt, turns, power-add, mod-add-div)

-- The generator to the power of a logarithm plus n is the word times the power n.
pub product-log : (x n : ℕ) → 0 < x → x < 2 ^ 16 → power (log x + n) ≡ product x (power n)
product-log x n pos hx = power-add (log x) n ∙ ap (λ v. product v (power n)) (power-log x pos hx)
