use Rattle.std.proofs.Common.{rules, ◌≡◌, ℕ, subst, arith, pow_mono}
use Rattle.rs_field.specs.code.Decoder.{DecoderState}
use Rattle.rs_field.specs.code.Frame.{frame_at}
use Rattle.rs_field.specs.declared.code.frame.Frame.{Frame}
use Rattle.rs_rate.proofs.passes_lemmas.ChangeLemmas.{distinct_rows_of}
use Rattle.reed_solomon_simd.proofs.BaseLemmas.{decoder_frame, frame_same}
use Rattle.reed_solomon_simd.proofs.SyndromeMarks.{OwnBelow, own-more, adds-originals}
use Rattle.reed_solomon_simd.proofs.strip_syndromes.marks_with_originals.Goals as goal

pub row_count-requires : goal.row_count-requires
row_count-requires g c = (distinct_rows_of c.counts-counts.result.framed c.counts-counts.result.supported).few

pub original_row-requires : goal.original_row-requires
original_row-requires g c =
    let f = distinct_rows_of c.counts-counts.result.framed c.counts-counts.result.supported in
    let room = pow_mono f.few in
    omega (arith, f.originals, room, c.loop-index-test.true)

pub index_mut-requires : goal.index_mut-requires
index_mut-requires g c =
    let f = distinct_rows_of c.counts-counts.result.framed c.counts-counts.result.supported in
    omega (arith, f.originals, c.loop-index-test.true, c.original_row.ensures, c.loop-index.invariant.count)

pub loop-index-init : goal.loop-index-init
loop-index-init g c = record {
  count = search rules;
  most = omega arith;
  added = record {
    own = λ i h. absurd (let no : ⊥ = omega (arith, h) in no);
    others = λ x _. c.in_ok-all.ensures.same x;
  };
}

pub loop-index-preserved : goal.loop-index-preserved
loop-index-preserved g c =
    let s : DecoderState = g.P.Pieces.received c.args.received.now in
    let f = distinct_rows_of c.counts-counts.result.framed c.counts-counts.result.supported in
    record {
      count = c.loop-index.invariant.count;
      most = omega (arith, c.loop-index-test.true);
      added = own-more c.loop-index.index c.original_row.result c.counts-counts.result.frame s.originals
          c.args.marks.now c.loop-index.all.items c.is_received-is_there.result c.original_row.ensures
          (search rules) c.is_received-is_there.ensures c.loop-index.invariant.added;
    }

pub returns-clause-marks : goal.returns-clause-marks
returns-clause-marks g c =
    let s : DecoderState = g.P.Pieces.received c.args.received.now in
    let frame = frame_same s c.requires.set_up c.counts-counts.result.framed c.counts-counts.ensures.originals
    c.counts-counts.ensures.recovery in
    let done : c.loop-index.index ≡ (g.P.Pieces.received c.args.received.now).configuration.original_count =
    omega (arith, c.loop-index-test.false, c.loop-index.invariant.most, c.counts-counts.ensures.originals) in
    adds-originals s (decoder_frame s c.requires.set_up) c.args.marks.now c.loop-index.all.items
    (subst (λ (n : ℕ). OwnBelow n (frame_at (g.P.Pieces.received c.args.received.now).configuration)
    (g.P.Pieces.received c.args.received.now).originals c.args.marks.now c.loop-index.all.items) done
    (subst (λ (f : Frame). OwnBelow c.loop-index.index f (g.P.Pieces.received c.args.received.now).originals
    c.args.marks.now c.loop-index.all.items) frame c.loop-index.invariant.added))
