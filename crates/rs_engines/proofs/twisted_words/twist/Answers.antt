use Rattle.std.proofs.Common.{bit_xor, ap₂, ◌∙◌}
use Rattle.rs_engines.proofs.TwistedWords.{twisted_word, low_numbers_additive, high_numbers_additive}
use Rattle.rs_engines.proofs.twisted_words.twist.Goals as goal

pub returns : goal.returns
returns g c i h =
    twisted_word _ _ _ _ (c.sum.ensures.small i h).0 (c.at_high_nibbles.ensures.small i h)
    (c.sum-change.ensures.lanes i h
    ∙ ap₂ bit_xor (c.at_low_nibbles.ensures low_numbers_additive i h)
    (c.at_high_nibbles.ensures.lanes high_numbers_additive i h))
    (c.sum.ensures.lanes i h)
