use Rattle.std.proofs.Common.{rules, ◌+◌, arith, ap, length}
use Rattle.std.proofs.lemmas.List.{with_items_is, take_all, length-take-le}
use Rattle.rs_field.proofs.words_lemmas.UpTo.{length-up_to}
use Rattle.rs_rate.proofs.rows_lemmas.ShardRowsLemmas.{chunk_count-within, given-more, shard-entered}
use Rattle.rs_rate.specs.values.Configured.{rows_to_encode}
use Rattle.rs_rate.proofs.rows_lemmas.StateLemmas.{with_shard-added}
use Rattle.rs_rate.specs.values.ChunkCounts.{chunk_count}
use Rattle.rs_rate.proofs.rows.encoder_work.EncoderRows.take_original_shard.Goals as goal

pub insert_at-requires-clause-room : goal.insert_at-requires-clause-room
insert_at-requires-clause-room c =
    let w = c.args.self.now in
    let fit = length-take-le w.configuration.shard_bytes c.args.original_shard.now (omega (arith, c.requires.size)) in
    let size = ap (λ n. chunk_count (w.originals_given + 1) n) fit in
    let within = chunk_count-within w.originals_given (rows_to_encode w.configuration) w.configuration.shard_bytes
    (length w.chunks.items) (omega (arith, c.requires.more, w.configured.originals))
    (omega (arith, w.whole)) in
    omega (arith, size, within, c.as_mut_slice.ensures.len)

pub invariant_of-self : goal.invariant_of-self
invariant_of-self c =
    let all = take_all c.args.self.now.configuration.shard_bytes c.args.original_shard.now
    (omega (arith, c.requires.size)) in
    search (rules, with_items_is, shard-entered, all)

pub returns-clause-left : goal.returns-clause-left
returns-clause-left c =
    let all = take_all c.args.self.now.configuration.shard_bytes c.args.original_shard.now
    (omega (arith, c.requires.size)) in
    search (rules, given-more, length-up_to, with_items_is, with_shard-added, all)
