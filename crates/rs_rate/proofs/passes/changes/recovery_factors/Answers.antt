use Rattle.std.proofs.Common.{rules, ◌∙◌, arith, pow_mono}
use Rattle.rs_rate.proofs.passes_lemmas.ChangeLemmas.{distinct_rows_of}
use Rattle.rs_rate.proofs.passes.changes.recovery_factors.Goals as goal

pub recovery_row-requires : goal.recovery_row-requires
recovery_row-requires c = search (rules, distinct_rows_of, pow_mono)

pub factor_of-log_m-requires-clause-second : goal.factor_of-log_m-requires-clause-second
factor_of-log_m-requires-clause-second c =
    let counts = c.args.counts in
    let f = distinct_rows_of counts.framed counts.supported in
    omega (arith, f.recovery, c.recovery_row.ensures, c.loop-i-test.true)

pub factor_of-log_m-requires-clause-apart : goal.factor_of-log_m-requires-clause-apart
factor_of-log_m-requires-clause-apart c same =
    c.requires.apart c.loop-i.i c.loop-i-test.true (same ∙ c.recovery_row.ensures)
