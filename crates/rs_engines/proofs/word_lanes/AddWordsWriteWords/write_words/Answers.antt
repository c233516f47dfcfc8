use Rattle.std.proofs.Common.{bit_xor, ap₂, refl, ◌∙◌}
use Rattle.rs_field.specs.rows.Written.{held}
use Rattle.rs_engines.proofs.Kept.{xor_sum}
use Rattle.rs_engines.proofs.word_lanes.AddWordsWriteWords.write_words.Goals as goal

pub returns-clause-written : goal.returns-clause-written
unfolding held
returns-clause-written g c i s h e =
    xor_sum _ _ _ (c.put_words.ensures.stored i s h e ∙ c.add-sum.ensures i h
    ∙ ap₂ bit_xor (c.words_at.ensures i s h e) refl)
