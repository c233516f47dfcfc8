-- The locator from two Walsh-Hadamard transforms, for any power of two of entries.
use Rattle.std.proofs.Common.{rules, ◌≡◌, ℕ, zero, suc, ◌+◌, ◌-◌, ◌*◌, ◌/◌, ◌%◌, ◌^◌, ◌<◌, ◌≤◌, ◌≢◌, true, leb-true}
use Rattle.std.proofs.Common.{cond, eqb, bit_xor, refl, sym, ap, ap₂, ◌∙◌, subst, arith, inl, inr, pow_mono, ne_eqb}
use Rattle.std.proofs.Common.{eq-eqb}
use Rattle.std.specs.Prelude.{nat_le}
use Rattle.std.specs.Int.Bits.{xor_self, xor_lt}
use Rattle.std.proofs.Math.Nat.{mul-le-mul_right}
use Rattle.std.proofs.lemmas.Nat.{pow-add, shl-shr}
use Rattle.std.proofs.lemmas.Bool.{cases_eq, cases_lt}
use Rattle.rs_field.specs.declared.words.steps.Steps.{Steps}
use Rattle.rs_field.specs.words.Search.{first_below}
use Rattle.rs_field.specs.words.StepBounds.{CountsUpTo, CountsProducts, LocatorCounts, LocatorCountsBelow, WalshCounts}
use Rattle.rs_field.specs.words.StepBounds.{log2, transform_steps}
use Rattle.rs_field.specs.words.Field.{log}
use Rattle.rs_field.specs.words.Locator.{log_sum, IsLocatorBelow}
use Rattle.rs_field.specs.words.Walsh.{total, sign, signed_sum, IsWalsh, log_or_zero}
use Rattle.rs_field.proofs.words_lemmas.Linear.{passes_below, from_passes_below}
use Rattle.rs_field.proofs.words_lemmas.Roots.{same_from_xor}
use Rattle.rs_field.proofs.words_lemmas.LocatorLemmas.{log_sum-zero, log_sum-suc, difference_pos}
use Rattle.rs_field.proofs.words_lemmas.Totals.{total-zero, total-suc, total-same, total-near, total-scale, total-swap}
use Rattle.rs_field.proofs.words_lemmas.Totals.{total-one, mul_near}
use Rattle.rs_field.proofs.words_lemmas.Signs.{sign-comm, sign-zero, sign-xor}
use Rattle.rs_field.proofs.words_lemmas.Halving.{sum_lower, sum_upper}
use Rattle.rs_field.proofs.words_lemmas.Counting.{counted}
use Rattle.std.proofs.lemmas.Grind.{common_steps}
use Rattle.rs_field.proofs.words_lemmas.Halves.{exponent_below}

-- ---- a sum of signs

total-ones : (n : ℕ) → total n (λ y. 1) ≡ n
total-ones zero = total-zero (λ y. 1)
total-ones (suc n) = let s = total-suc n (λ y. 1) in let more = total-ones n in omega arith

signs_at_zero : (n u : ℕ) → u ≡ 0 → signed_sum n (λ y. 1) u ≡ n
signs_at_zero n u none =
    total-same n (λ y. sign u y * 1) (λ y. 1) (λ y hy. ap (λ v. sign v y * 1) none ∙ ap (λ v. v * 1) (sign-zero y))
    ∙ total-ones n

signs_elsewhere : (e u : ℕ) → 0 < u → u < 2 ^ e → signed_sum (2 ^ e) (λ y. 1) u % 65535 ≡ 0
signs_elsewhere zero u some hu = absurd (let no : ⊥ = omega arith in no)
signs_elsewhere (suc e) u some hu =
    let two : 2 ^ suc e ≡ 2 ^ e + 2 ^ e = omega arith in
    elim (cases_lt u (2 ^ e)) [
      | inl first ↦
          let s = sum_lower e u (λ y. 1) first in
          let none = signs_elsewhere e u some first in
          ap (λ n. signed_sum n (λ y. 1) u % 65535) two
          ∙ (let r : signed_sum (2 ^ e + 2 ^ e) (λ y. 1) u % 65535 ≡ 0 = omega arith in r)
      | inr second ↦
          let v : ℕ = u - 2 ^ e in
          let back : u ≡ 2 ^ e + v = omega arith in
          let s = sum_upper e v (λ y. 1) (omega arith) in
          ap₂ (λ n w. signed_sum n (λ y. 1) w % 65535) two back
          ∙ (let r : signed_sum (2 ^ e + 2 ^ e) (λ y. 1) (2 ^ e + v) % 65535 ≡ 0 = omega arith in r)
    ]

-- The product of the signs at two points is the sign at their XOR.
signs_meet : (n u z : ℕ) → n ≤ 65536
    → total n (λ w. sign w u * sign w z) % 65535 ≡ signed_sum n (λ y. 1) (bit_xor u z) % 65535
signs_meet n u z few = search (rules, total-near, sign-xor, sign-comm)

-- ---- the transform of a transform

-- The transform of a transform is the first list times the number of entries.
pub transform-back : (d : ℕ) (f g : ℕ → ℕ) (u : ℕ) → d ≤ 16 → IsWalsh (2 ^ d) f g → u < 2 ^ d
    → signed_sum (2 ^ d) g u % 65535 ≡ f u * 2 ^ d % 65535
transform-back d f g u hd is hu =
    total-near (2 ^ d) (λ w. sign u w * g w) (λ w. total (2 ^ d) (λ z. sign u w * (sign w z * f z)))
    (λ w hw. mul_near (sign u w) (g w) (sign u w) (signed_sum (2 ^ d) f w) refl (is w hw)
    ∙ ap (λ v. v % 65535) (sym (total-scale (2 ^ d) (sign u w) (λ z. sign w z * f z))))
    ∙ ap (λ v. v % 65535)
    (total-swap (2 ^ d) (2 ^ d) (λ w z. sign u w * (sign w z * f z))
    ∙ total-same (2 ^ d) (λ z. total (2 ^ d) (λ w. sign u w * (sign w z * f z))) at_point (λ z hz. collected z))
    ∙ total-one (2 ^ d) u at_point hu (λ z hz apart. elsewhere z hz apart)
    ∙ here
  where
    few : 2 ^ d ≤ 65536
    few = pow_mono hd

    at_point : ℕ → ℕ
    at_point z = f z * total (2 ^ d) (λ w. sign w u * sign w z)

    collected : (z : ℕ) → total (2 ^ d) (λ w. sign u w * (sign w z * f z))
        ≡ f z * total (2 ^ d) (λ w. sign w u * sign w z)
    collected z =
        total-same (2 ^ d) (λ w. sign u w * (sign w z * f z)) (λ w. f z * (sign w u * sign w z))
        (λ w hw. ap (λ v. v * (sign w z * f z)) (sign-comm u w) ∙ regroup (sign w u) (sign w z) (f z))
        ∙ total-scale (2 ^ d) (f z) (λ w. sign w u * sign w z)
      where
        regroup : (a b c : ℕ) → a * (b * c) ≡ c * (a * b)
        regroup a b c = omega arith

    elsewhere : (z : ℕ) → z < 2 ^ d → z ≢ u → f z * total (2 ^ d) (λ w. sign w u * sign w z) % 65535 ≡ 0
    elsewhere z hz apart =
        let some = difference_pos u z apart in
        mul_near (f z) (total (2 ^ d) (λ w. sign w u * sign w z)) (f z) 0 refl
        (signs_meet (2 ^ d) u z few ∙ signs_elsewhere d (bit_xor u z) some (xor_lt d u z hu hz))
        ∙ ap (λ v. v % 65535) (let r : f z * 0 ≡ 0 = omega arith in r)

    here : f u * total (2 ^ d) (λ w. sign w u * sign w u) % 65535 ≡ f u * 2 ^ d % 65535
    here =
        mul_near (f u) (total (2 ^ d) (λ w. sign w u * sign w u)) (f u) (2 ^ d) refl
        (signs_meet (2 ^ d) u u few ∙ ap (λ v. v % 65535) (signs_at_zero (2 ^ d) (bit_xor u u) (xor_self u)))

-- ---- the locator

-- The transform of the products of two transforms is the sum over XORs times the number of entries.
pub transform-products : (d : ℕ) (e l old_walsh products l_walsh : ℕ → ℕ) (x : ℕ) → d ≤ 16 → x < 2 ^ d
    → IsWalsh (2 ^ d) e old_walsh → IsWalsh (2 ^ d) l l_walsh
    → ((w : ℕ) → w < 2 ^ d → products w % 65535 ≡ old_walsh w * l_walsh w % 65535)
    → signed_sum (2 ^ d) products x % 65535 ≡ total (2 ^ d) (λ y. e y * (l (bit_xor x y) * 2 ^ d)) % 65535
transform-products d e l old_walsh products l_walsh x hd hx is_e is_l made =
    total-near (2 ^ d) (λ w. sign x w * products w)
    (λ w. total (2 ^ d) (λ y. (sign x w * l_walsh w) * (sign w y * e y))) (λ w hw. spread w hw)
    ∙ ap (λ v. v % 65535) (total-swap (2 ^ d) (2 ^ d) (λ w y. (sign x w * l_walsh w) * (sign w y * e y)))
    ∙ total-near (2 ^ d) (λ y. total (2 ^ d) (λ w. (sign x w * l_walsh w) * (sign w y * e y)))
    (λ y. e y * (l (bit_xor x y) * 2 ^ d)) (λ y hy. gathered y hy)
  where
    few : 2 ^ d ≤ 65536
    few = pow_mono hd

    spread : (w : ℕ) → w < 2 ^ d
        → sign x w * products w % 65535 ≡ total (2 ^ d) (λ y. (sign x w * l_walsh w) * (sign w y * e y)) % 65535
    spread w hw =
        mul_near (sign x w) (products w) (sign x w) (signed_sum (2 ^ d) e w * l_walsh w) refl
        (made w hw ∙ mul_near (old_walsh w) (l_walsh w) (signed_sum (2 ^ d) e w) (l_walsh w) (is_e w hw) refl)
        ∙ ap (λ v. v % 65535)
        (regroup (sign x w) (signed_sum (2 ^ d) e w) (l_walsh w)
        ∙ sym (total-scale (2 ^ d) (sign x w * l_walsh w) (λ y. sign w y * e y)))
      where
        regroup : (a b c : ℕ) → a * (b * c) ≡ a * c * b
        regroup a b c = omega arith

    gathered : (y : ℕ) → y < 2 ^ d
        → total (2 ^ d) (λ w. (sign x w * l_walsh w) * (sign w y * e y)) % 65535
        ≡ e y * (l (bit_xor x y) * 2 ^ d) % 65535
    gathered y hy =
        ap (λ v. v % 65535)
        (total-same (2 ^ d) (λ w. (sign x w * l_walsh w) * (sign w y * e y))
        (λ w. e y * (sign w x * sign w y * l_walsh w))
        (λ w hw. ap (λ v. v * l_walsh w * (sign w y * e y)) (sign-comm x w)
        ∙ regroup (sign w x) (l_walsh w) (sign w y) (e y))
        ∙ total-scale (2 ^ d) (e y) (λ w. sign w x * sign w y * l_walsh w))
        ∙ mul_near (e y) (total (2 ^ d) (λ w. sign w x * sign w y * l_walsh w)) (e y) (l (bit_xor x y) * 2 ^ d) refl
        (total-near (2 ^ d) (λ w. sign w x * sign w y * l_walsh w) (λ w. sign (bit_xor x y) w * l_walsh w)
        (λ w hw. mul_near (sign w x * sign w y) (l_walsh w) (sign (bit_xor x y) w) (l_walsh w)
        (sign-xor w x y (omega (arith, few)) ∙ ap (λ v. v % 65535) (sign-comm w (bit_xor x y))) refl)
        ∙ transform-back d l l_walsh (bit_xor x y) hd is_l (xor_lt d x y hx hy))
      where
        regroup : (a b c d : ℕ) → a * b * (c * d) ≡ d * (a * c * b)
        regroup a b c d = omega arith

log_or_zero-is : (z : ℕ) → log_or_zero z ≡ cond (eqb z 0) 0 (log z)
unfolding log_or_zero
log_or_zero-is z = refl

-- The term of the point itself is zero, so the sum can run over all points.
log_sum-is : (n : ℕ) (e : ℕ → ℕ) (x : ℕ) → log_sum n e x ≡ total n (λ y. e y * log_or_zero (bit_xor x y))
log_sum-is zero e x = log_sum-zero e x ∙ sym (total-zero (λ y. e y * log_or_zero (bit_xor x y)))
log_sum-is (suc n) e x =
    search (
      rules,
      log_sum-suc,
      total-suc,
      cases_eq,
      xor_self,
      eq-eqb,
      log_or_zero-is,
      same_from_xor,
      ne_eqb,
      log_sum-is
          n e x,
    )

-- The factor 2 ^ d of two transforms and the factor 65536 / 2 ^ d of the table have the product 65536, which is 1
-- modulo 65535.
one_turn : (d v : ℕ) → d ≤ 16 → 65536 / 2 ^ d * v * 2 ^ d % 65535 ≡ v % 65535
one_turn d v hd =
    grind (
      arith,
      common_steps,
      regroup (2 ^ (16 - d)) v (2 ^ d),
      turned v,
      shl-shr (2 ^ (16 - d)) d,
      pow-add 2
          (16 - d) d,
    )
  where
    regroup : (a v b : ℕ) → a * v * b ≡ a * b * v
    regroup a v b = omega arith

    turned : (v : ℕ) → 65536 * v % 65535 ≡ v % 65535
    turned v = omega arith

-- A power of two up to 65536 has an exponent up to 16.
pub few_bits : (d : ℕ) → 2 ^ d ≤ 65536 → d ≤ 16
few_bits d h = let few = exponent_below d 17 (omega arith) in omega arith

pub locator-made : (d : ℕ) (old old_walsh products new l_walsh : ℕ → ℕ) → d ≤ 16
    → IsWalsh (2 ^ d) old old_walsh → IsWalsh (2 ^ d) (λ z. 65536 / 2 ^ d * log_or_zero z) l_walsh
    → ((w : ℕ) → w < 2 ^ d → products w % 65535 ≡ old_walsh w * l_walsh w % 65535)
    → IsWalsh (2 ^ d) products new → IsLocatorBelow (2 ^ d) old new
locator-made d old old_walsh products new l_walsh hd is_old is_log made is_new x hx =
    is_new x hx ∙ transform-products d old
    (λ z. 65536 / 2 ^ d * log_or_zero z) old_walsh products l_walsh x hd hx is_old is_log made
    ∙ total-near (2 ^ d) (λ y. old y * (65536 / 2 ^ d * log_or_zero (bit_xor x y) * 2 ^ d))
    (λ y. old y * log_or_zero (bit_xor x y))
    (λ y hy. mul_near (old y) (65536 / 2 ^ d * log_or_zero (bit_xor x y) * 2 ^ d) (old y)
    (log_or_zero (bit_xor x y)) refl (one_turn d (log_or_zero (bit_xor x y)) hd))
    ∙ ap (λ v. v % 65535) (sym (log_sum-is (2 ^ d) old x))

-- ---- counts

-- The counts of a locator are those of two transforms of n entries and the n products between them.
pub locator-counts : (n : ℕ) (a b c d : Steps) → WalshCounts n a b → CountsProducts n b c → WalshCounts n c d
    → LocatorCountsBelow n a d
unfolding transform_steps
locator-counts n a b c d p (x, y, z) q =
    of_bounds (n / 2 * log2 n) (n * log2 n) (doubled (n / 2) (log2 n) n (omega arith)) p q x y z
  where
    doubled : (h l n : ℕ) → h * 2 ≤ n → h * l + h * l ≤ n * l
    doubled h l n le = let two : h * 2 * l ≡ h * l + h * l = omega arith in
        subst (λ (v : ℕ). v ≤ n * l) two (mul-le-mul_right l le)

    of_bounds : (t u : ℕ) → t + t ≤ u → CountsUpTo 0 t 0 a b → CountsUpTo 0 t 0 c d
        → c.row_steps ≡ b.row_steps → c.pair_sums ≡ b.pair_sums → c.products ≡ b.products + n → CountsUpTo 0 u n a d
    of_bounds t u le p q x y z =
        counted 0 u n a d (omega arith, omega arith) (omega arith, omega arith) (omega arith, omega arith)

-- Among the powers of two up to 65536, the pair sums of a transform are the most for 65536 entries.
most_sums : passes_below 17 (λ d. nat_le (2 ^ d * log2 (2 ^ d)) 1048576) ≡ true
unfolding log2 first_below passes_below
most_sums = refl

-- The counts of a locator of fewer points are within the bound for all points.
pub counts-below : (d n : ℕ) (a b : Steps) → n ≡ 2 ^ d → n ≤ 65536 → LocatorCountsBelow n a b → LocatorCounts a b
counts-below d n a b is few p =
    let hd : d ≤ 16 = few_bits d (omega arith) in
    let le : 2 ^ d * log2 (2 ^ d) ≤ 1048576 =
    leb-true (2 ^ d * log2 (2 ^ d)) 1048576
    (from_passes_below 17 (λ d. nat_le (2 ^ d * log2 (2 ^ d)) 1048576) most_sums d (omega arith)) in
    of_bound (n * log2 n) (subst (λ (m : ℕ). m * log2 m ≤ 1048576) (sym is) le) p
  where
    of_bound : (t : ℕ) → t ≤ 1048576 → CountsUpTo 0 t n a b → CountsUpTo 0 1048576 65536 a b
    of_bound t le p = counted 0 1048576 65536 a b (omega arith, omega arith) (omega arith, omega arith)
        (omega arith, omega arith)
