use Rattle.std.proofs.Common.{rules, ◌<◌, length, sym, ap, arith}
use Rattle.rs_rate.specs.values.Configured.{rows_to_decode}
use Rattle.rs_rate.specs.rows.Marks.{restored_marks, restored_by_row}
use Rattle.rs_rate.proofs.rows_lemmas.RowMaps.{marked-at, part-in, part-out}
use Rattle.rs_rate.proofs.rows_lemmas.ShardRowsLemmas.{chunk_count-within}
use Rattle.rs_rate.proofs.rows.decoder_work.DecoderRows.restored_original.Goals as goal

pub returns-then-index-self : goal.returns-then-index-self
returns-then-index-self c =
    let w = c.args.self.now in
    sym (part-out (restored_by_row (restored_marks w.memory.marks) w.memory.chunks.items w.configuration.shard_bytes)
    w.configuration.frame.originals_from w.configuration.original_count c.args.index c.if-index-self.true)

pub returns-then-not-is_restored : goal.returns-then-not-is_restored
returns-then-not-is_restored c = search (rules, part-in, marked-at)

pub shard_at-requires : goal.shard_at-requires
shard_at-requires c =
    let w = c.args.self.now in
    let slice = ap length c.as_slice.ensures.value in
    let below : c.original_row-row.result < rows_to_decode c.args.self.now.configuration =
    omega (arith, w.configured.own_rows, c.original_row-row.ensures, c.if-index-self.false) in
    let within = chunk_count-within c.original_row-row.result (rows_to_decode w.configuration)
    w.configuration.shard_bytes (length w.memory.chunks.items) below (omega (arith, w.laid_out.whole)) in
    omega (arith, slice, within)

pub returns : goal.returns
returns c = search (rules, part-in, marked-at)
