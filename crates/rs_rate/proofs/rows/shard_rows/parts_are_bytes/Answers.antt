use Rattle.std.proofs.Common.{rules}
use Rattle.rs_field.proofs.rows_lemmas.LayoutLemmas.{shard-in_order}
use Rattle.rs_rate.proofs.rows_lemmas.ShardRowsLemmas.{chunk-fits}
use Rattle.rs_rate.proofs.rows.shard_rows.parts_are_bytes.Goals as goal

pub returns : goal.returns
returns c = search (rules, shard-in_order, chunk-fits)
