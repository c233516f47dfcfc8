use Rattle.std.proofs.Common.{rules, set, arith, pow_mono}
use Rattle.std.proofs.lemmas.Bool.{cases_eq}
use Rattle.std.proofs.lemmas.List.{get_or-set_same, get_or-set_other}
use Rattle.rs_rate.proofs.passes_lemmas.ChangeLemmas.{distinct_rows_of}
use Rattle.rs_rate.proofs.passes.changes.original_marks.Goals as goal

pub row_count-requires : goal.row_count-requires
row_count-requires c = (distinct_rows_of c.args.counts.framed c.args.counts.supported).few

pub original_row-requires : goal.original_row-requires
original_row-requires c = search (rules, distinct_rows_of, pow_mono)

pub index_mut-requires : goal.index_mut-requires
index_mut-requires c =
    let f = distinct_rows_of c.args.counts.framed c.args.counts.supported in
    omega (arith, f.originals, c.loop-i-test.true)

pub loop-i-preserved : goal.loop-i-preserved
loop-i-preserved c = search (rules, distinct_rows_of, cases_eq, set, get_or-set_same, get_or-set_other)
