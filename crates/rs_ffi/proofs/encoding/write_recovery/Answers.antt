use Rattle.rs_ffi.proofs.CutLemmas.{cut-length, cut-sized}
use Rattle.rs_ffi.proofs.encoding.write_recovery.Goals as goal

pub encode_strips-requires-clause-originals : goal.encode_strips-requires-clause-originals
encode_strips-requires-clause-originals g c =
    cut-length c.args.counts.original_count c.args.shard_bytes c.args.originals.now

pub encode_strips-requires-clause-number : goal.encode_strips-requires-clause-number
encode_strips-requires-clause-number g c =
    cut-length c.args.counts.recovery_count c.args.shard_bytes c.args.recovery.now

pub encode_strips-requires-clause-sized : goal.encode_strips-requires-clause-sized
encode_strips-requires-clause-sized g c =
    cut-sized c.args.counts.original_count c.args.shard_bytes c.args.originals.now c.requires.own

pub encode_strips-requires-clause-fit : goal.encode_strips-requires-clause-fit
encode_strips-requires-clause-fit g c =
    cut-sized c.args.counts.recovery_count c.args.shard_bytes c.args.recovery.now c.requires.whole
