use Rattle.std.proofs.Common.{arith}
use Rattle.rs_field.proofs.words_lemmas.UpTo.{length-up_to}
use Rattle.rs_rate.specs.rows.ShardRows.{shard_in_order}
use Rattle.reed_solomon_simd.proofs.strip_encoder.put_pieces.Goals as goal

pub returns-clause-put : goal.returns-clause-put
returns-clause-put g c =
    let own = c.args.encoder.now in
    let count = length-up_to own.configuration.recovery_count
    (shard_in_order own.chunks.items own.configuration.shard_bytes) in (
      c.loop-index.invariant.number,
      λ i few. c.loop-index.invariant.put i
          (omega (
            arith,
            few,
            count,
            c.requires.number,
            c.loop-index-test.false,
            c.recovery_count-index-end.ensures,
          )),
    )
