use Rattle.std.proofs.Common.{ap, ◌∙◌}
use Rattle.rs_field.specs.words.Field.{product}
use Rattle.rs_engines.proofs.shuffle_chunks.mul_lanes.Goals as goal

pub returns-clause-products : goal.returns-clause-products
returns-clause-products g c f i s is h e =
    c.put_words.ensures.stored i s h e ∙ c.times.ensures f i is h
    ∙ ap (λ w. product w f) (c.words_at-words.ensures i s h e)
