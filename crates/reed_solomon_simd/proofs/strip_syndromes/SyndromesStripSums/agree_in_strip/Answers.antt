use Rattle.std.proofs.Common.{rules, ℕ, refl, arith, below_more}
use Rattle.rs_field.specs.code.Decoder.{DecoderState}
use Rattle.rs_field.specs.code.PieceStates.{state_of_pieces}
use Rattle.rs_rate.specs.objects.StripView.{coded_shards}
use Rattle.reed_solomon_simd.specs.Syndromes.{AgreesAt}
use Rattle.reed_solomon_simd.proofs.ConsistentStrips.{exact-consistent, consistent-cut}
use Rattle.reed_solomon_simd.proofs.SyndromeChecks.{consistent-syndrome, syndromes-consistent}
use Rattle.reed_solomon_simd.proofs.strip_syndromes.SyndromesStripSums.agree_in_strip.Goals as goal

-- Without surplus shards, some message agrees with all received shards.
pub returns-then-self-eq0 : goal.returns-then-self-eq0
returns-then-self-eq0 g c =
    let s : DecoderState = g.P.Pieces.received c.args.received.now in
    let ready = c.requires.ready in (
      λ is.
          consistent-cut s c.args.start c.args.end ready.strip
          (exact-consistent s ready.set_up (omega (arith, ready.surplus_is, c.if-self-eq0.true))),
      λ consistent. refl,
    )

pub returns-then-not-agrees : goal.returns-then-not-agrees
returns-then-not-agrees g c =
    let s : DecoderState = g.P.Pieces.received c.args.received.now in
    let ready = c.requires.ready in (
      λ is. absurd (let no : ⊥ = cc is in no),
      λ consistent.
          c.if-not-agrees.ensures.1 (consistent-syndrome s ready.set_up c.args.start c.args.end ready.strip
          c.args.self.now.base ready.based (coded_shards c.args.self.now.encoder) ready.made consistent
          c.loop-index.index (omega (arith, c.loop-index-test.true, c.counts-index-end.ensures.recovery))),
    )

pub returns : goal.returns
returns g c =
    let s : DecoderState = g.P.Pieces.received c.args.received.now in
    let ready = c.requires.ready in (
      λ is.
          syndromes-consistent s ready.set_up c.args.start c.args.end ready.strip c.args.self.now.base ready.based
          (coded_shards c.args.self.now.encoder) ready.made
          (λ i inside. c.loop-index.invariant.agree i
          (omega (arith, inside, c.loop-index-test.false, c.counts-index-end.ensures.recovery))),
      λ consistent. refl,
    )

pub loop-index-preserved : goal.loop-index-preserved
loop-index-preserved g c = record {
  room = search rules;
  agree = below_more (λ (i : ℕ). AgreesAt
      (state_of_pieces c.args.start c.args.end (g.P.Pieces.received c.args.received.now))
      c.args.self.now.base (coded_shards c.args.self.now.encoder) i) c.loop-index.index
      c.loop-index.invariant.agree (c.if-not-agrees.ensures.0 refl);
}
