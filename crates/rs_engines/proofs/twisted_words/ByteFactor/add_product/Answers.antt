use Rattle.std.proofs.Common.{rules, ◌≡◌, ℕ, bit_xor, ap, ◌∙◌, sym}
use Rattle.rs_field.specs.words.Field.{product, power}
use Rattle.rs_field.specs.words.Tables.{times_factor}
use Rattle.rs_engines.proofs.TwistedWords.{added_product}
use Rattle.rs_engines.proofs.twisted_words.ByteFactor.add_product.Goals as goal

pub returns : goal.returns
returns g c i h =
    let factor : (w : ℕ) → times_factor c.args.self.log_m w ≡ product w (power c.args.self.log_m) = search rules in
    added_product _ _ _ _ _ _ _ _ _ (c.sum.ensures.lanes i h) (c.sum-2.ensures.lanes i h)
    (c.times.ensures.products i h) (c.times-2.ensures.products i h) (c.sum.ensures.small i h).0
    (c.times.ensures.small i h) (c.sum.ensures.small i h).1
    ∙ ap (bit_xor _) (sym (factor _))
