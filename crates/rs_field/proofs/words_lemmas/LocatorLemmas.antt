-- The sum of logarithms of a locator, point by point.
use Rattle.std.proofs.Common.{◌≡◌, ℕ, zero, suc, ◌+◌, ◌*◌, ◌<◌, ◌≢◌, Bool, cond, eqb, bit_xor, refl, sym, ap, ◌∙◌}
use Rattle.std.proofs.Common.{arith, add-zero, zero-mul, one-mul, ne_eqb, eq-eqb, inl, inr}
use Rattle.std.proofs.lemmas.Bool.{cases_eq}
use Rattle.std.proofs.lemmas.Grind.{common_steps}
use Rattle.rs_field.specs.words.Field.{log}
use Rattle.rs_field.specs.words.Locator.{log_sum}
use Rattle.rs_field.proofs.words_lemmas.Roots.{same_from_xor}

pub log_sum-zero : (e : ℕ → ℕ) (x : ℕ) → log_sum 0 e x ≡ 0
unfolding log_sum
log_sum-zero e x = refl

pub log_sum-suc : (y : ℕ) (e : ℕ → ℕ) (x : ℕ)
    → log_sum (suc y) e x ≡ log_sum y e x + cond (eqb x y) 0 (e y * log (bit_xor x y))
unfolding log_sum
log_sum-suc y e x = refl

-- The point itself adds nothing to the sum.
pub log_sum-itself : (y : ℕ) (e : ℕ → ℕ) (x : ℕ) → y ≡ x → log_sum (suc y) e x ≡ log_sum y e x
log_sum-itself y e x same =
    log_sum-suc y e x ∙ ap (λ (b : Bool). log_sum y e x + cond b 0 (e y * log (bit_xor x y))) (eq-eqb x y (sym same))
    ∙ add-zero (log_sum y e x)

-- Another point adds its entry times the logarithm of the difference.
log_sum-other : (y : ℕ) (e : ℕ → ℕ) (x : ℕ) → y ≢ x → log_sum (suc y) e x ≡ log_sum y e x + e y * log (bit_xor x y)
log_sum-other y e x differs =
    log_sum-suc y e x ∙ ap (λ (b : Bool). log_sum y e x + cond b 0 (e y * log (bit_xor x y)))
    (ne_eqb x y (λ (s : x ≡ y). differs (sym s)))

-- Another point that is not marked adds nothing to the sum.
pub log_sum-unmarked : (y : ℕ) (e : ℕ → ℕ) (x : ℕ) → e y ≡ 0 → y ≢ x → log_sum (suc y) e x ≡ log_sum y e x
log_sum-unmarked y e x none differs =
    log_sum-other y e x differs
    ∙ ap (λ k. log_sum y e x + k) (ap (λ k. k * log (bit_xor x y)) none ∙ zero-mul (log (bit_xor x y)))
    ∙ add-zero (log_sum y e x)

-- Another point that is marked adds the logarithm of the difference.
pub log_sum-marked : (y : ℕ) (e : ℕ → ℕ) (x : ℕ) → e y ≡ 1 → y ≢ x
    → log_sum (suc y) e x ≡ log_sum y e x + log (bit_xor x y)
log_sum-marked y e x one differs =
    log_sum-other y e x differs
    ∙ ap (λ k. log_sum y e x + k) (ap (λ k. k * log (bit_xor x y)) one ∙ one-mul (log (bit_xor x y)))

-- Two points differ by a nonzero word.
pub difference_pos : (x y : ℕ) → y ≢ x → 0 < bit_xor x y
difference_pos x y differs =
    elim (cases_eq (bit_xor x y) 0)
    [ inl none ↦ absurd (differs (sym (same_from_xor x y none))) | inr some ↦ omega arith ]

-- The sum depends only on the entries below the bound.
pub log_sum-same : (n : ℕ) (e f : ℕ → ℕ) (x : ℕ) → ((y : ℕ) → y < n → e y ≡ f y) → log_sum n e x ≡ log_sum n f x
log_sum-same zero e f x same = grind (arith, common_steps, log_sum-zero)
log_sum-same (suc y) e f x same =
    grind (arith, common_steps, log_sum-suc, log_sum-same y e f x (λ z hz. same z (omega arith)))
