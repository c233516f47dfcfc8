use Rattle.std.proofs.Common.{bit_xor, ap, ap₂, ◌∙◌}
use Rattle.rs_field.specs.words.Tables.{times_factor}
use Rattle.rs_engines.specs.Twisted.{twisted}
use Rattle.rs_engines.proofs.twisted_chunks.add_twisted_lanes.Goals as goal

pub returns-clause-sums : goal.returns-clause-sums
returns-clause-sums g c i s h is =
    ap twisted (c.put_words.ensures.stored i s h is) ∙ c.add_product-sum.ensures i h
    ∙ ap₂ (λ v w. bit_xor (twisted v) (times_factor c.args.factor.log_m (twisted w)))
    (c.words_at.ensures i s h is) (c.words_at-2.ensures i s h is)
