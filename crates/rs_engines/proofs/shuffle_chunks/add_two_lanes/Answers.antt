use Rattle.std.proofs.Common.{bit_xor, ap₂, ◌∙◌}
use Rattle.rs_field.specs.words.Tables.{times_factor}
use Rattle.rs_engines.proofs.shuffle_chunks.add_two_lanes.Goals as goal

pub returns-clause-sums : goal.returns-clause-sums
returns-clause-sums g c i s h e =
    c.put_words.ensures.stored i s h e ∙ c.add_product.ensures i h
    ∙ ap₂ (λ a b. bit_xor a (times_factor (g.F.Factor.log c.args.f1) b))
    (c.add_product-sum.ensures i h
    ∙ ap₂ (λ a b. bit_xor a (times_factor (g.F.Factor.log c.args.f0) b)) (c.words_at.ensures i s h e)
    (c.words_at-2.ensures i s h e))
    (c.words_at-3.ensures i s h e)
