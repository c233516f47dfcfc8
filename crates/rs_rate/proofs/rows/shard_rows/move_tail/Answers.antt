use Rattle.std.proofs.Common.{rules}
use Rattle.rs_field.proofs.rows_lemmas.RowOffsets.{offset_apart}
use Rattle.rs_rate.specs.rows.ShardRows.{row_chunk}
use Rattle.rs_rate.proofs.rows.shard_rows.move_tail.Goals as goal

pub returns-clause-here : goal.returns-clause-here
unfolding row_chunk
returns-clause-here c = search rules

pub returns-clause-others : goal.returns-clause-others
unfolding row_chunk
returns-clause-others c = search (rules, offset_apart)
