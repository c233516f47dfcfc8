use Rattle.std.proofs.Common.{sym, ◌∙◌}
use Rattle.rs_rate.specs.rows.DecoderView.{decoder_state}
use Rattle.rs_rate.specs.rows.Entering.{given_rows}
use Rattle.rs_rate.proofs.rows_lemmas.AddedShards.{accepted-original}
use Rattle.rs_rate.proofs.rows_lemmas.RowMaps.{part-in}
use Rattle.rs_rate.proofs.objects.strips.RateObject+unit+C+DecoderRows.take_original.Goals as goal

pub take_original_shard-requires-clause-index : goal.take_original_shard-requires-clause-index
take_original_shard-requires-clause-index g c =
    (accepted-original (decoder_state g.C.RateMarker.rate c.args.self.now.rows) c.args.index c.args.shard.now
    c.requires).0

pub take_original_shard-requires-clause-free : goal.take_original_shard-requires-clause-free
take_original_shard-requires-clause-free g c =
    let rows = c.args.self.now.rows in
    let own = rows.configuration in
    let is = accepted-original (decoder_state g.C.RateMarker.rate rows) c.args.index c.args.shard.now c.requires in
    sym (part-in (given_rows rows.memory own.shard_bytes) own.frame.originals_from own.original_count c.args.index
    is.0) ∙ is.1

pub take_original_shard-requires-clause-size : goal.take_original_shard-requires-clause-size
take_original_shard-requires-clause-size g c =
    (accepted-original (decoder_state g.C.RateMarker.rate c.args.self.now.rows) c.args.index c.args.shard.now
    c.requires).2
