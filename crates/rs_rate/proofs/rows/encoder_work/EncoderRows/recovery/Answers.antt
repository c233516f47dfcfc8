use Rattle.std.proofs.Common.{arith, ap, length}
use Rattle.rs_rate.specs.values.Configured.{rows_to_encode}
use Rattle.rs_rate.proofs.rows_lemmas.ShardRowsLemmas.{chunk_count-within}
use Rattle.rs_rate.proofs.rows.encoder_work.EncoderRows.recovery.Goals as goal

pub shard_at-requires : goal.shard_at-requires
shard_at-requires c =
    let w = c.args.self.now in
    let slice = ap length c.as_slice.ensures.value in
    let within = chunk_count-within c.args.index (rows_to_encode w.configuration) w.configuration.shard_bytes
    (length w.chunks.items) (omega (arith, w.configured.recovery, c.if-index-self.false)) (omega (arith, w.whole)) in
    omega (arith, slice, within)
