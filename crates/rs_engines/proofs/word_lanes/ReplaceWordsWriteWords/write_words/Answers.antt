use Rattle.std.proofs.Common.{◌∙◌}
use Rattle.std.specs.Int.Bits.{xor_zero_l}
use Rattle.rs_field.specs.rows.Written.{held}
use Rattle.rs_engines.proofs.word_lanes.ReplaceWordsWriteWords.write_words.Goals as goal

pub returns-clause-written : goal.returns-clause-written
unfolding held
returns-clause-written g c i s h e = xor_zero_l _ ∙ c.put_words.ensures.stored i s h e
