use Rattle.std.proofs.Common.{rules, ◌-◌, ap, arith, subst}
use Rattle.std.specs.Prelude.{slice_index}
use Rattle.rs_field.specs.declared.code.frame.Frame.{Frame}
use Rattle.rs_field.specs.code.Column.{column, shard_at}
use Rattle.rs_field.specs.code.Decoder.{DecoderState}
use Rattle.rs_field.specs.code.PieceStates.{state_of_pieces}
use Rattle.rs_rate.specs.objects.StripView.{coded_shards}
use Rattle.reed_solomon_simd.specs.StripSums.{sum_at}
use Rattle.reed_solomon_simd.specs.StripSums.{HasSums}
use Rattle.reed_solomon_simd.proofs.BaseLemmas.{frame_same}
use Rattle.reed_solomon_simd.proofs.ConsistentStrips.{even-strip}
use Rattle.reed_solomon_simd.proofs.SyndromeRounds.{lent-count}
use Rattle.reed_solomon_simd.proofs.strip_syndromes.Syndromes.sum_rows.Goals as goal

pub invariant_of-sums : goal.invariant_of-sums
invariant_of-sums g c =
    let s : DecoderState = g.P.Pieces.received c.args.received.now in
    let t : DecoderState = state_of_pieces c.args.start c.args.end s in
    let ready = c.requires.ready in
    record {
      size = search rules;
      even = even-strip s ready.set_up c.args.start c.args.end ready.strip;
      there = λ x inside is.
          let (i, hi, at) = ready.based.only x is in
          let from = ap (λ (f : Frame). f.recovery_from) (frame_same s ready.set_up c.counts.result.framed
          c.counts.ensures.originals c.counts.ensures.recovery) in
          let count = lent-count c.args.self.now.encoder t.configuration ready.code in
          (omega (arith, at, from), omega (arith, at, from, count, hi));
      outside = c.requires.outside;
      within = λ d few. omega (arith, c.requires.inside d few, ready.based.located.entries);
    }

pub returns : goal.returns
returns g c d few =
    let s : DecoderState = g.P.Pieces.received c.args.received.now in
    let frame = frame_same s c.requires.ready.set_up c.counts.result.framed c.counts.ensures.originals
    c.counts.ensures.recovery in
    subst (λ (f : Frame). HasSums c.args.self.now.base
    (λ j x. column j (shard_at (coded_shards c.args.self.now.encoder) (x - f.recovery_from)))
    (c.args.end - c.args.start) (slice_index c.args.rows.now d)
    (sum_at c.make_sums.new.x (c.args.end - c.args.start) d)) frame
    (c.make_sums.ensures d few)
