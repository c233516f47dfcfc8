use Rattle.std.proofs.Common.{rules, arith, pow_mono}
use Rattle.rs_field.specs.code.Decoder.{DecoderState}
use Rattle.rs_rate.proofs.passes_lemmas.ChangeLemmas.{distinct_rows_of}
use Rattle.reed_solomon_simd.proofs.SyndromeMarks.{coded-more}
use Rattle.reed_solomon_simd.proofs.strip_syndromes.recovery_marks.Goals as goal

pub row_count-requires : goal.row_count-requires
row_count-requires g c = (distinct_rows_of c.counts-counts.result.framed c.counts-counts.result.supported).few

pub recovery_row-requires : goal.recovery_row-requires
recovery_row-requires g c =
    let f = distinct_rows_of c.counts-counts.result.framed c.counts-counts.result.supported in
    let room = pow_mono f.few in
    omega (arith, f.recovery, room, c.loop-index-test.true)

pub index_mut-requires : goal.index_mut-requires
index_mut-requires g c =
    let f = distinct_rows_of c.counts-counts.result.framed c.counts-counts.result.supported in
    omega (arith, f.recovery, c.loop-index-test.true, c.recovery_row.ensures, c.loop-index.invariant.count)

pub loop-index-preserved : goal.loop-index-preserved
loop-index-preserved g c =
    let s : DecoderState = g.P.Pieces.received c.args.received.now in
    let f = distinct_rows_of c.counts-counts.result.framed c.counts-counts.result.supported in
    record {
      count = c.loop-index.invariant.count;
      marked = coded-more c.loop-index.index c.recovery_row.result c.counts-counts.result.frame s.recovery
          c.loop-index.marks.items c.is_received-is_there.result c.recovery_row.ensures
          (search rules) c.is_received-is_there.ensures c.loop-index.invariant.marked;
    }
