use Rattle.std.proofs.Common.{arith}
use Rattle.rs_field.proofs.words_lemmas.LogWalsh.{log_or_zero-zero, log_or_zero-some}
use Rattle.rs_field.proofs.words.tables.log_at.Goals as goal

pub returns-then-z-eq0 : goal.returns-then-z-eq0
returns-then-z-eq0 c = log_or_zero-zero c.args.z c.if-z-eq0.true

pub returns-else-z-eq0 : goal.returns-else-z-eq0
returns-else-z-eq0 c = log_or_zero-some c.args.log.now c.args.z c.requires.log (omega arith) c.requires.word
