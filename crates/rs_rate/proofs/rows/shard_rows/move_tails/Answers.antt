use Rattle.std.proofs.Common.{rules, length, arith}
use Rattle.std.proofs.lemmas.Bool.{cases_eq}
use Rattle.rs_field.proofs.rows_lemmas.LayoutLemmas.{laid_out-same, in_order-same}
use Rattle.rs_rate.proofs.rows_lemmas.ShardRowsLemmas.{chunk_count-within}
use Rattle.rs_rate.proofs.rows.shard_rows.move_tails.Goals as goal

pub move_tail-requires-clause-room : goal.move_tail-requires-clause-room
move_tail-requires-clause-room c =
    let within = chunk_count-within c.loop-i.i c.args.count c.args.shard_bytes
    (length c.args.chunks.now) c.loop-i-test.true c.requires.room in
    omega (arith, within, c.loop-i.auto.chunks)

pub loop-i-preserved : goal.loop-i-preserved
loop-i-preserved c = search (rules, cases_eq, laid_out-same, in_order-same)
