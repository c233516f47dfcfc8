-- Logarithms from the table of the factors of butterflies: those of even words are in the table, and those of odd words
-- are differences.
use Rattle.std.proofs.Common.{◌≡◌, ℕ, ◌+◌, ◌-◌, ◌*◌, ◌/◌, ◌%◌, ◌^◌, ◌<◌, List, get_or, bit_xor, sym, ap, ◌∙◌, arith}
use Rattle.std.proofs.Common.{ne_eqb}
use Rattle.std.specs.Int.Bits.{xor_shifted}
use Rattle.std.proofs.Math.Nat.{mod-lt}
use Rattle.rs_field.specs.words.Field.{product, power, log}
use Rattle.rs_field.specs.words.Subspace.{subspace}
use Rattle.rs_field.specs.words.Tables.{IsSkew, log_or_mark}
use Rattle.rs_field.proofs.words_lemmas.Halves.{mark_word}
use Rattle.rs_field.proofs.words_lemmas.Inverse.{product_cancel}
use Rattle.rs_field.proofs.words_lemmas.Power.{power_lt, power-add, power-mod, power-log, power_turn, power_injective}
use Rattle.rs_field.proofs.words_lemmas.Power.{log_lt, power_zero}
use Rattle.rs_field.proofs.words_lemmas.Product.{product_one}
use Rattle.rs_field.proofs.words_lemmas.Subspace.{subspace_shift, times_next}
use Rattle.rs_field.proofs.words_lemmas.Total.{product-comm}

-- The entry of an even place is the logarithm of the place.
pub even_log : (skew : List ℕ) (z : ℕ) → IsSkew skew → 0 < z → z < 65536 → z % 2 ≡ 0 → get_or skew z 0 ≡ log z
even_log skew z is pos hz even =
    let place : z ≡ z + 1 - 1 = omega arith in
    let point : z + 1 - 2 ^ 0 ≡ z = omega arith in
    let word : z / 2 ^ 0 ≡ z = omega arith in
    ap (λ p. get_or skew p 0) place ∙ is.skew_entry 0 (z / 2) (z + 1) (omega arith) (omega arith)
    ∙ ap log_or_mark (ap (subspace 0) point ∙ subspace_shift 0 z (omega arith) hz ∙ word)
    ∙ mark_word z (ne_eqb z 0 (λ e. omega arith))

-- The product of an even word and the next word is half of the even word.
even_times_next : (x : ℕ) → x < 2 ^ 16 → x % 2 ≡ 0 → product x (x + 1) ≡ x / 2
even_times_next x hx even =
    let half : x ≡ x / 2 * 2 ^ 1 = omega arith in
    ap (product x) (ap (λ v. v + 1) half ∙ sym (xor_shifted (x / 2) 1 1 (omega arith)) ∙ ap (λ v. bit_xor v 1)
    (sym half))
    ∙ times_next x hx

-- The logarithm of 1 is 0.
pub log_one : log 1 ≡ 0
log_one =
    power_injective (log 1) 0 (log_lt 1 (omega arith) (omega arith)) (omega arith)
    (power-log 1 (omega arith) (omega arith) ∙ sym power_zero)

-- The logarithm of the odd word z is the logarithm of z / 2 minus that of z - 1.
pub odd_log : (z : ℕ) → 1 < z → z < 65536 → z % 2 ≡ 1 → (log (z / 2) + (65535 - log (z - 1))) % 65535 ≡ log z
odd_log z more hz odd =
    power_injective ((log (z / 2) + (65535 - log (z - 1))) % 65535) (log z)
    (mod-lt (log (z / 2) + (65535 - log (z - 1))) (omega arith)) (log_lt z (omega arith) (omega arith))
    (power-mod (log (z / 2) + (65535 - log (z - 1)))
    ∙ product_cancel (z - 1) (power (log (z / 2) + (65535 - log (z - 1)))) z (omega arith) (omega arith)
    (power_lt (log (z / 2) + (65535 - log (z - 1)))) (omega arith) (undone ∙ sym whole)
    ∙ sym (power-log z (omega arith) (omega arith)))
  where
    -- Multiplied by z - 1, the power of the difference is z / 2.
    undone : product (power (log (z / 2) + (65535 - log (z - 1)))) (z - 1) ≡ z / 2
    undone =
        let small : log (z - 1) < 65535 = log_lt (z - 1) (omega arith) (omega arith) in
        ap (product (power (log (z / 2) + (65535 - log (z - 1)))))
        (sym (power-log (z - 1) (omega arith) (omega arith)))
        ∙ sym (power-add (log (z / 2) + (65535 - log (z - 1))) (log (z - 1)))
        ∙ ap power (let e : log (z / 2) + (65535 - log (z - 1)) + log (z - 1) ≡ log (z / 2) + 65535 = omega arith in e)
        ∙ power-add (log (z / 2)) 65535 ∙ ap (product (power (log (z / 2)))) power_turn
        ∙ product_one (power (log (z / 2))) (power_lt (log (z / 2)))
        ∙ power-log (z / 2) (omega arith) (omega arith)

    -- The word z times z - 1 is z / 2.
    whole : product z (z - 1) ≡ z / 2
    whole =
        let next : z - 1 + 1 ≡ z = omega arith in
        let half : (z - 1) / 2 ≡ z / 2 = omega arith in
        product-comm z (z - 1) ∙ ap (product (z - 1)) (sym next)
        ∙ even_times_next (z - 1) (omega arith) (omega arith) ∙ half
