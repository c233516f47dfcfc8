use Rattle.std.proofs.Common.{ap, ◌∙◌}
use Rattle.rs_engines.specs.Twisted.{twisted}
use Rattle.rs_engines.proofs.twisted_chunks.twist_lanes.Goals as goal

pub returns-clause-twisted : goal.returns-clause-twisted
returns-clause-twisted g c i s h is =
    c.put_words.ensures.stored i s h is ∙ c.twist.ensures i h ∙ ap twisted (c.words_at-words.ensures i s h is)
