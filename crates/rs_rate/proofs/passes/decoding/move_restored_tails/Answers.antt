use Rattle.std.proofs.Common.{rules, ◌<◌, length, arith, true≢false}
use Rattle.std.proofs.lemmas.Bool.{cases_lt}
use Rattle.rs_field.proofs.words_lemmas.Counting.{counts_rows, counts_none, counts_then}
use Rattle.rs_field.proofs.rows_lemmas.LayoutLemmas.{laid_out-same, in_order-same}
use Rattle.rs_rate.specs.values.Configured.{rows_to_decode}
use Rattle.rs_rate.proofs.rows_lemmas.ShardRowsLemmas.{chunk_count-within}
use Rattle.rs_rate.proofs.passes.decoding.move_restored_tails.Goals as goal
use Rattle.rs_rate.proofs.passes.decoding.move_restored_tails.Goals.{then-is_restored, else-is_restored}

pub move_tail-requires-clause-room : goal.move_tail-requires-clause-room
move_tail-requires-clause-room c =
    let s = c.args.configuration in
    let below : c.original_row-row.result < rows_to_decode c.args.configuration =
    omega (arith, c.loop-i-test.true, c.original_row-row.ensures, c.requires.configured.own_rows) in
    let within = chunk_count-within c.original_row-row.result (rows_to_decode s) s.shard_bytes
    (length c.args.chunks.now) below c.requires.whole in
    omega (arith, within, c.loop-i.auto.chunks)

pub loop-i-preserved : goal.loop-i-preserved
loop-i-preserved c =
    search (
      rules,
      then-is_restored,
      counts_rows,
      else-is_restored,
      true≢false,
      counts_none,
      cases_lt,
      in_order-same,
      laid_out-same,
      counts_then,
    )
