use Rattle.std.proofs.Common.{length}
use Rattle.rs_field.proofs.words_lemmas.Convolution.{counts-below}
use Rattle.rs_field.proofs.rows.kernel_engine.AnyEngine.locate.Goals as goal

pub returns-clause-counts : goal.returns-clause-counts
returns-clause-counts g c =
    counts-below c.requires.power.0
    (length c.args.erasures.now) c.args.steps.now c.locate.new.steps c.requires.power.1 c.requires.few
    c.locate.ensures.counts
