use Rattle.std.proofs.Common.{rules}
use Rattle.rs_field.proofs.rows_lemmas.LayoutLemmas.{shard-laid_out, shard-in_order}
use Rattle.rs_rate.proofs.rows_lemmas.ShardRowsLemmas.{row-fits}
use Rattle.rs_rate.proofs.rows.shard_rows.rows_are_bytes.Goals as goal

pub returns-clause-laid_out : goal.returns-clause-laid_out
returns-clause-laid_out c = search (rules, shard-laid_out, row-fits)

pub returns-clause-in_order : goal.returns-clause-in_order
returns-clause-in_order c = search (rules, shard-in_order, row-fits)
