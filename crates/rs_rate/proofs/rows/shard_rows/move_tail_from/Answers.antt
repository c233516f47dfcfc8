use Rattle.std.proofs.Common.{rules}
use Rattle.rs_field.proofs.rows_lemmas.LayoutLemmas.{laid_out-same, in_order-same}
use Rattle.rs_rate.proofs.rows_lemmas.ShardRowsLemmas.{part-inside, part-outside, part-read, part_length}
use Rattle.rs_rate.proofs.rows.shard_rows.move_tail_from.Goals as goal

pub returns-clause-here : goal.returns-clause-here
returns-clause-here c = search (rules, in_order-same, laid_out-same, part-inside, part-read, part_length)

pub returns-clause-others : goal.returns-clause-others
returns-clause-others c = search (rules, part-outside, part_length)
