-- The locator as a product.
use Rattle.std.proofs.lemmas.Grind.{common_steps}
use Rattle.std.proofs.lemmas.Bool.Decides.{eqb_tells}
use Rattle.std.proofs.Common.{◌≡◌, ℕ, zero, suc, ◌*◌, ◌^◌, ◌<◌, ◌≤◌, cond, bit_xor, sym, ap, ◌∙◌, inl, inr, arith, ap₂}
use Rattle.std.specs.Prelude.{if◌then◌else◌, ◌==◌}
use Rattle.std.specs.Int.Bits.{xor_lt}
use Rattle.rs_field.specs.words.Field.{nth_power, power, log, generator, product}
use Rattle.rs_field.specs.words.Subspace.{product_below}
use Rattle.rs_field.specs.words.Locator.{log_sum}
use Rattle.rs_field.proofs.words_lemmas.Power.{generator_lt, nth_power-mul, power-add, power_zero, power-log}
use Rattle.rs_field.proofs.words_lemmas.Subspace.{product_below-suc, product_below-zero}
use Rattle.rs_field.proofs.words_lemmas.LocatorLemmas.{difference_pos}

-- The generator to the power of a multiple of a logarithm is a power of the word.
power-mul_log : (z k : ℕ) → 0 < z → z < 2 ^ 16 → power (k * log z) ≡ nth_power z k
unfolding power
power-mul_log z k pos lt =
    grind (arith, common_steps, nth_power-mul generator (log z) k generator_lt, power-log z pos lt)

-- The generator to the power of a locator's sum is the product of its factors.
pub power-log_sum : (n : ℕ) (e : ℕ → ℕ) (x : ℕ) → n ≤ 65536 → x < 65536
    → power (log_sum n e x) ≡ product_below n (λ y. if x == y then 1 else nth_power (bit_xor x y) (e y))
unfolding log_sum
power-log_sum zero e x hn hx =
    power_zero ∙ sym (product_below-zero (λ y. if x == y then 1 else nth_power (bit_xor x y) (e y)))
power-log_sum (suc y) e x hn hx =
    let rest : power (log_sum y e x) ≡ product_below y (λ y. if x == y then 1 else nth_power (bit_xor x y) (e y)) =
    power-log_sum y e x (omega arith) hx in
    let last : power (if x == y then 0 else e y * log (bit_xor x y))
    ≡ (if x == y then 1 else nth_power (bit_xor x y) (e y)) =
    elim (eqb_tells x y) [
      | inl same ↦ ap (λ b. power (cond b 0 (e y * log (bit_xor x y)))) same.0 ∙ power_zero
          ∙ sym (ap (λ b. cond b 1 (nth_power (bit_xor x y) (e y))) same.0)
      | inr apart ↦
          ap (λ b. power (cond b 0 (e y * log (bit_xor x y)))) apart.0
          ∙ power-mul_log (bit_xor x y) (e y) (difference_pos x y (λ e. apart.1 (sym e)))
          (xor_lt 16 x y hx (omega arith))
          ∙ sym (ap (λ b. cond b 1 (nth_power (bit_xor x y) (e y))) apart.0)
    ] in
    power-add (log_sum y e x) (if x == y then 0 else e y * log (bit_xor x y)) ∙ ap₂ product rest last
    ∙ sym (product_below-suc y (λ y. if x == y then 1 else nth_power (bit_xor x y) (e y)))
