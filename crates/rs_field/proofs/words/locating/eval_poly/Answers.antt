use Rattle.std.proofs.Common.{length, arith}
use Rattle.rs_field.proofs.words_lemmas.Convolution.{counts-below}
use Rattle.rs_field.proofs.words.locating.eval_poly.Goals as goal

pub locate_marked-requires-clause-power : goal.locate_marked-requires-clause-power
locate_marked-requires-clause-power c = (16, c.requires.size)

pub returns-clause-counts : goal.returns-clause-counts
returns-clause-counts c =
    counts-below 16 (length c.args.erasures.now) c.args.steps.now c.locate_marked.new.steps c.requires.size
    (omega arith) c.locate_marked.ensures.counts
