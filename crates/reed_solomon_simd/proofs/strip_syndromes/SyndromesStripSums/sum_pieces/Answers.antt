use Rattle.std.proofs.Common.{rules, ◌≡◌, ℕ, length, ◌^◌, ◌<◌, sym, ◌∙◌, ap, subst, arith, pow_mono}
use Rattle.std.specs.Prelude.{slice_index, slice_index_or}
use Rattle.rs_field.specs.declared.code.frame.Frame.{Frame}
use Rattle.rs_field.specs.code.Decoder.{DecoderState}
use Rattle.rs_field.specs.code.Frame.{frame_at, row_count}
use Rattle.rs_field.specs.rows.MarkedRows.{is_marked}
use Rattle.rs_rate.specs.objects.StripView.{coded_shards}
use Rattle.reed_solomon_simd.specs.declared.shard_index.ShardIndex.{ShardIndex}
use Rattle.reed_solomon_simd.specs.declared.shard_index.ShardIndex.TheVariants.{Original}
use Rattle.reed_solomon_simd.specs.Base.{row_of}
use Rattle.reed_solomon_simd.proofs.BaseLemmas.{decoder_frame, frame_same}
use Rattle.reed_solomon_simd.proofs.BaseSums.{row-inside}
use Rattle.reed_solomon_simd.proofs.MissingLemmas.{rebuilt-one}
use Rattle.reed_solomon_simd.proofs.SyndromeChecks.{missing-outside, syndrome-piece}
use Rattle.reed_solomon_simd.proofs.strip_syndromes.SyndromesStripSums.sum_pieces.Given.{Over}
use Rattle.reed_solomon_simd.proofs.strip_syndromes.SyndromesStripSums.sum_pieces.Goals.{After-set_rows}
use Rattle.reed_solomon_simd.proofs.strip_syndromes.SyndromesStripSums.sum_pieces.Goals as goal

pub set_rows-requires-clause-small : goal.set_rows-requires-clause-small
set_rows-requires-clause-small g c i d inside =
    let s : DecoderState = g.P.Pieces.received c.args.received.now in
    let ready = c.requires.ready in
    let can = c.requires.can i d inside in
    let frame = frame_same s ready.set_up c.counts.result.framed c.counts.ensures.originals c.counts.ensures.recovery in
    let below = row-inside s ready.set_up (slice_index_or c.args.wanted.now i d) (rebuilt-one s _ can) in
    let rows = pow_mono (decoder_frame s ready.set_up).few in
    subst (λ (f : Frame). row_of f (slice_index_or c.args.wanted.now i d) < 2 ^ 64) (sym frame)
    (omega (arith, below, rows))

-- Each row is that of its shard, in the frame of the decoder.
row-is : (g : Over) (c : After-set_rows g) (d : ℕ) → d < length c.args.wanted.now
    → slice_index c.set_rows.new.rows d
    ≡ row_of (frame_at (g.P.Pieces.received c.args.received.now).configuration)
    (slice_index_or c.args.wanted.now d (Original 0))
row-is g c d few =
    let s : DecoderState = g.P.Pieces.received c.args.received.now in
    let ready = c.requires.ready in
    let frame = frame_same s ready.set_up c.counts.result.framed c.counts.ensures.originals c.counts.ensures.recovery in
    c.set_rows.ensures d few
    ∙ ap (λ (p : Frame). row_of p (slice_index_or c.args.wanted.now d (Original 0))) frame

pub sum_rows-requires-clause-inside : goal.sum_rows-requires-clause-inside
sum_rows-requires-clause-inside g c d few =
    let s : DecoderState = g.P.Pieces.received c.args.received.now in
    let number : length c.set_rows.new.rows ≡ length c.args.wanted.now = search rules in
    let inside : d < length c.args.wanted.now = omega (arith, few, number) in
    subst (λ (x : ℕ). x < row_count (frame_at (g.P.Pieces.received c.args.received.now).configuration))
    (sym (row-is g (goal.at.sum_rows-requires-clause-inside g c).After-set_rows d inside))
    (row-inside s c.requires.ready.set_up (slice_index_or c.args.wanted.now d (Original 0))
    (rebuilt-one s _ (c.requires.can d (Original 0) inside)))

pub sum_rows-requires-clause-outside : goal.sum_rows-requires-clause-outside
sum_rows-requires-clause-outside g c d few =
    let s : DecoderState = g.P.Pieces.received c.args.received.now in
    let ready = c.requires.ready in
    let wanted : ShardIndex = slice_index_or c.args.wanted.now d (Original 0) in
    let number : length c.set_rows.new.rows ≡ length c.args.wanted.now = search rules in
    let inside : d < length c.args.wanted.now = omega (arith, few, number) in
    ap (is_marked c.args.self.now.base.marks.now)
    (row-is g (goal.at.sum_rows-requires-clause-outside g c).After-set_rows d inside)
    ∙ missing-outside s ready.set_up c.args.start c.args.end ready.strip c.args.self.now.base ready.based
    (coded_shards c.args.self.now.encoder) ready.made wanted (c.requires.can d (Original 0) inside)

pub returns : goal.returns
returns g c d inside =
    let s : DecoderState = g.P.Pieces.received c.args.received.now in
    let ready = c.requires.ready in
    let wanted : ShardIndex = slice_index_or c.args.wanted.now d (Original 0) in
    let number : length c.set_rows.new.rows ≡ length c.args.wanted.now = search rules in
    syndrome-piece s ready.set_up c.args.start c.args.end ready.strip c.args.self.now.base ready.based
    (coded_shards c.args.self.now.encoder) ready.made wanted _ _ (c.requires.can d (Original 0) inside)
    (row-is g (goal.at.returns g c).After-set_rows d inside) (c.sum_rows.ensures d (omega (arith, inside, number)))
