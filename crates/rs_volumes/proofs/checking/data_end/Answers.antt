use Rattle.std.proofs.Common.{rules}
use Rattle.rs_volumes.proofs.CheckLemmas.{end_at, too_long_at, end_past}
use Rattle.rs_volumes.proofs.DataLemmas.{is_below, was_below}
use Rattle.rs_volumes.proofs.checking.data_end.Goals as goal

pub returns-in_err-end-clause-answer : goal.returns-in_err-end-clause-answer
returns-in_err-end-clause-answer c = search (rules, too_long_at)

pub loop-entry-preserved : goal.loop-entry-preserved
loop-entry-preserved c = search (rules, end_at, was_below)

pub returns-clause-answer : goal.returns-clause-answer
returns-clause-answer c = search (rules, end_past, is_below)
