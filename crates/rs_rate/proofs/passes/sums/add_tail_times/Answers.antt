use Rattle.std.proofs.Common.{rules, length, arith}
use Rattle.rs_rate.proofs.passes_lemmas.SumLemmas.{one_row, times_known, column-sum}
use Rattle.rs_rate.proofs.passes.sums.add_tail_times.Goals as goal

pub insert_at-requires-clause-room : goal.insert_at-requires-clause-room
insert_at-requires-clause-room g c =
    one_row (length c.args.tail.now) 1 (omega (arith, c.requires.some, c.requires.short))

pub returns : goal.returns
returns g c = search (rules, column-sum, times_known)
