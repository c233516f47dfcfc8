use Rattle.std.proofs.Common.{◌+◌, ◌<◌, length, ap, ◌∙◌, arith}
use Rattle.std.proofs.lemmas.List.{length-take-le}
use Rattle.rs_rate.specs.values.ChunkCounts.{chunk_count}
use Rattle.rs_rate.proofs.rows_lemmas.ShardRowsLemmas.{chunk_count-more}
use Rattle.rs_rate.proofs.passes.message_encoding.put_message.Goals as goal

pub insert_at-requires-clause-room : goal.insert_at-requires-clause-room
insert_at-requires-clause-room g c =
    let own = c.args.configuration in
    let few : c.loop-index.index < own.original_count = c.loop-index-test.true in
    let inside : c.loop-index.index < length (g.M.StripMessage.shards c.args.message.now) =
    omega (arith, c.requires.number, few) in
    let long = ap length c.piece.ensures ∙ c.requires.sized c.loop-index.index _ inside in
    let fit = length-take-le own.shard_bytes c.piece.result.now (omega (arith, long)) in
    let size = ap (λ n. chunk_count (c.loop-index.index + 1) n) fit in
    let more = chunk_count-more (c.loop-index.index + 1) own.original_count own.shard_bytes (omega (arith, few)) in
    omega (arith, size, more, c.requires.room, c.loop-index.invariant.length)
