use Rattle.std.proofs.Common.{rules}
use Rattle.rs_rate.proofs.rows_lemmas.ShardRowsLemmas.{row_end, moved-read}
use Rattle.rs_rate.proofs.rows.shard_rows.shard_at.Goals as goal

pub returns : goal.returns
returns c = search (rules, row_end, moved-read)
