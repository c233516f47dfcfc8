use Rattle.std.proofs.Common.{rules}
use Rattle.rs_field.proofs.words_lemmas.UpTo.{length-up_to}
use Rattle.rs_rate.proofs.rows.encoder_work.EncoderRows.check_all_given.Goals as goal

pub returns-then-self : goal.returns-then-self
returns-then-self c = λ rate. rw (length-up_to c.args.self.now.originals_given _) (search rules)

pub returns : goal.returns
returns c = λ rate. rw (length-up_to c.args.self.now.originals_given _) (search rules)
