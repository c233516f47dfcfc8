use Rattle.std.proofs.Common.{◌≡◌, ◌+◌, ◌%◌, ℕ, ◌<◌, get_or, List, sym, ap, ◌∙◌, arith}
use Rattle.rs_field.specs.words.Field.{product, power, log}
use Rattle.rs_field.specs.words.Tables.{IsExpLog}
use Rattle.rs_field.proofs.words_lemmas.Product.{zero_product}
use Rattle.rs_field.proofs.words_lemmas.Power.{power-mod, product-log}
use Rattle.rs_field.proofs.words.products.mul.Goals as goal

pub returns-then-x-eq0 : goal.returns-then-x-eq0
returns-then-x-eq0 c =
    sym (ap (λ v. product v (power c.args.log_m)) c.if-x-eq0.true ∙ zero_product (power c.args.log_m))

-- The entry of the table at a place with the right residue is the product.
by_tables : (exp_table log_table : List ℕ) → IsExpLog exp_table log_table → (x n place : ℕ) → 0 < x → x < 65536
    → place < 65536
    → place % 65535 ≡ (get_or log_table x 0 + n) % 65535 → get_or exp_table place 0 ≡ product x (power n)
by_tables exp_table log_table h x n place pos hx hp e =
    h.exp_entry place hp ∙ sym (power-mod place) ∙ ap power (e ∙ ap (λ v. (v + n) % 65535) (h.log_entry x pos hx))
    ∙ power-mod (log x + n)
    ∙ product-log x n pos hx

pub returns-else-x-eq0 : goal.returns-else-x-eq0
returns-else-x-eq0 c =
    by_tables c.args.exp.now c.args.log.now c.requires c.args.x c.args.log_m c.add_mod.result (omega arith)
    (omega arith) (omega arith) c.add_mod.ensures
