use Rattle.rs_rate.specs.rows.ShardRows.{shard_in_order}
use Rattle.rs_rate.proofs.rows_lemmas.ResultLemmas.{listed-shard}
use Rattle.rs_rate.proofs.objects.encoder_result.EncoderResult.recovery.Goals as goal

pub returns : goal.returns
returns c =
    let rows = c.args.self.now.rows.now in
    listed-shard rows.configuration.recovery_count c.args.index
    (shard_in_order rows.chunks.items rows.configuration.shard_bytes) c.recovery.result c.recovery.ensures
