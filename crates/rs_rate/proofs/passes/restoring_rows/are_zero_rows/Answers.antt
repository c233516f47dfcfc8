use Rattle.std.proofs.Common.{rules, true≢false}
use Rattle.std.proofs.lemmas.Bool.{cases_lt}
use Rattle.rs_rate.proofs.passes_lemmas.RestoringRows.{row-read}
use Rattle.rs_rate.proofs.passes.restoring_rows.are_zero_rows.Goals as goal

pub returns-then-not-is_zero_row-clause-zero : goal.returns-then-not-is_zero_row-clause-zero
returns-then-not-is_zero_row-clause-zero c = search (rules, row-read, true≢false)

pub loop-i-preserved : goal.loop-i-preserved
loop-i-preserved c = search (rules, cases_lt, row-read)
