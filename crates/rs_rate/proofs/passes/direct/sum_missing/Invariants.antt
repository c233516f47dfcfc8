use Rattle.rs_rate.proofs.passes_lemmas.DirectRows.{RowsSummed}
use Rattle.rs_rate.proofs.passes.direct.sum_missing.Given as goal

abbrev pub invariant-loop-i : goal.invariant-loop-i
invariant-loop-i g l =
    RowsSummed l.base l.len l.given l.configuration.frame l.i l.initial.chunks l.chunks
    l.initial.steps l.steps
