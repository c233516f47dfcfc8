use Rattle.std.proofs.Common.{rules, ◌≡◌, ℕ, ◌+◌, ◌-◌, ◌<◌, ap, ap₂, sym, ◌∙◌, arith, bit_xor}
use Rattle.rs_field.specs.words.Field.{product, power}
use Rattle.rs_field.specs.words.Tables.{times_factor}
use Rattle.rs_field.proofs.words_lemmas.Power.{power-add, power_turn}
use Rattle.rs_field.proofs.words_lemmas.Product.{product_xor_left, product_one}
use Rattle.rs_field.proofs.words_lemmas.Total.{product-assoc}
use Rattle.rs_field.proofs.rows.engine.Engine.mul_add.Goals as goal

-- Dividing by a factor, adding a word and multiplying by the factor adds the word times the factor.
added : (x y l : ℕ) → x < 65536 → l < 65535
    → product (bit_xor (product x (power (65535 - l))) y) (power l) ≡ bit_xor x (times_factor l y)
added x y l word some =
    let whole : 65535 - l + l ≡ 65535 = omega arith in
    product_xor_left (product x (power (65535 - l))) y (power l)
    ∙ ap₂ bit_xor
    (product-assoc x (power (65535 - l)) (power l)
    ∙ ap (product x) (sym (power-add (65535 - l) l) ∙ ap power whole ∙ power_turn) ∙ product_one x word)
    (search rules)

pub returns-then-log_m-ne-GF_MODULUS-clause-sums : goal.returns-then-log_m-ne-GF_MODULUS-clause-sums
returns-then-log_m-ne-GF_MODULUS-clause-sums g c = search (rules, added)
