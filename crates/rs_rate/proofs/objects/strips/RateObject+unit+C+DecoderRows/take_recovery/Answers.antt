use Rattle.std.proofs.Common.{sym, ◌∙◌}
use Rattle.rs_rate.specs.rows.DecoderView.{decoder_state}
use Rattle.rs_rate.specs.rows.Entering.{given_rows}
use Rattle.rs_rate.proofs.rows_lemmas.AddedShards.{accepted-recovery}
use Rattle.rs_rate.proofs.rows_lemmas.RowMaps.{part-in}
use Rattle.rs_rate.proofs.objects.strips.RateObject+unit+C+DecoderRows.take_recovery.Goals as goal

pub take_recovery_shard-requires-clause-index : goal.take_recovery_shard-requires-clause-index
take_recovery_shard-requires-clause-index g c =
    (accepted-recovery (decoder_state g.C.RateMarker.rate c.args.self.now.rows) c.args.index c.args.shard.now
    c.requires).0

pub take_recovery_shard-requires-clause-free : goal.take_recovery_shard-requires-clause-free
take_recovery_shard-requires-clause-free g c =
    let rows = c.args.self.now.rows in
    let own = rows.configuration in
    let is = accepted-recovery (decoder_state g.C.RateMarker.rate rows) c.args.index c.args.shard.now c.requires in
    sym (part-in (given_rows rows.memory own.shard_bytes) own.frame.recovery_from own.recovery_count c.args.index
    is.0) ∙ is.1

pub take_recovery_shard-requires-clause-size : goal.take_recovery_shard-requires-clause-size
take_recovery_shard-requires-clause-size g c =
    (accepted-recovery (decoder_state g.C.RateMarker.rate c.args.self.now.rows) c.args.index c.args.shard.now
    c.requires).2
