use Rattle.std.proofs.Common.{◌∙◌}
use Rattle.rs_field.proofs.words_lemmas.Sums.{low_of_four}
use Rattle.rs_field.proofs.words.mul128.low_bytes.Goals as goal

pub returns : goal.returns
returns c n f i are h = c.spread.ensures i h ∙ low_of_four n f c.args.words.now i are h
