use Rattle.std.proofs.Common.{rules}
use Rattle.rs_field.proofs.words_lemmas.UpTo.{length-up_to}
use Rattle.rs_rate.proofs.rows.encoder_work.EncoderRows.add_original_shard.Goals as goal

pub returns-then-self-clause-answer : goal.returns-then-self-clause-answer
returns-then-self-clause-answer c = λ rate. rw (length-up_to c.args.self.now.originals_given _) (search rules)

pub returns-then-self-clause-left : goal.returns-then-self-clause-left
returns-then-self-clause-left c = λ rate. rw (length-up_to c.args.self.now.originals_given _) (search rules)

pub returns-then-original_shard-self-clause-answer : goal.returns-then-original_shard-self-clause-answer
returns-then-original_shard-self-clause-answer c = λ rate.
    rw (length-up_to c.args.self.now.originals_given _) (search rules)

pub returns-clause-answer : goal.returns-clause-answer
returns-clause-answer c = λ rate. rw (length-up_to c.args.self.now.originals_given _) (search rules)
