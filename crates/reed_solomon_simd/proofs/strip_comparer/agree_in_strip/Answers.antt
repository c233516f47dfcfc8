use Rattle.std.proofs.Common.{◌-◌, sym, ap, subst, ◌∙◌}
use Rattle.rs_field.specs.code.Code.{AreRecovery}
use Rattle.rs_field.specs.code.Configuration.{Configuration, configuration}
use Rattle.rs_field.specs.code.Decoder.{DecoderState}
use Rattle.rs_field.specs.code.PieceStates.{state_of_pieces}
use Rattle.rs_rate.specs.objects.StripView.{coded_shards}
use Rattle.reed_solomon_simd.proofs.ComparedStrips.{received_strip, received-are, received-sized, compared-consistent}
use Rattle.reed_solomon_simd.proofs.ComparedStrips.{consistent-compared}
use Rattle.reed_solomon_simd.proofs.StripLoops.{strip-whole}
use Rattle.reed_solomon_simd.proofs.strip_comparer.agree_in_strip.Given.{Over}
use Rattle.reed_solomon_simd.proofs.strip_comparer.agree_in_strip.Goals.{After-encode}
use Rattle.reed_solomon_simd.proofs.strip_comparer.agree_in_strip.Goals as goal

pub encode-requires-clause-number : goal.encode-requires-clause-number
encode-requires-clause-number g c =
    let x : DecoderState = g.P.Pieces.received c.args.received.now in
    (received-are x c.requires.set_up c.requires.all c.args.start c.args.end c.requires.strip).length_is
    ∙ sym (ap (λ (d : Configuration). d.original_count) c.requires.ready.code)

pub encode-requires-clause-sized : goal.encode-requires-clause-sized
encode-requires-clause-sized g c =
    received-sized (g.P.Pieces.received c.args.received.now) c.requires.set_up c.requires.all c.args.start c.args.end
    c.requires.strip

pub encode-requires-clause-whole : goal.encode-requires-clause-whole
encode-requires-clause-whole g c reads = strip-whole c.requires.strip (c.requires.ready.whole reads)

-- The encoder has the recovery pieces of the received originals.
coded : (g : Over) (c : After-encode g) → let x : DecoderState = g.P.Pieces.received c.args.received.now in
    AreRecovery (state_of_pieces c.args.start c.args.end x).configuration
    (received_strip x c.requires.set_up c.requires.all c.args.start c.args.end c.requires.strip)
    (coded_shards c.encode.new.self)
coded g c =
    let x : DecoderState = g.P.Pieces.received c.args.received.now in
    subst (λ (d : Configuration). AreRecovery d
    (received_strip x c.requires.set_up c.requires.all c.args.start c.args.end c.requires.strip)
    (coded_shards c.encode.new.self))
    (c.encode.ensures.code ∙ ap (λ (d : Configuration). configuration d.rate d.original_count d.recovery_count
    (c.args.end - c.args.start)) c.requires.ready.code) c.encode.ensures.coded

pub are_encoded-requires-clause-number : goal.are_encoded-requires-clause-number
are_encoded-requires-clause-number g c =
    (coded g (goal.at.are_encoded-requires-clause-number g c).After-encode).shards.length_is

pub returns-clause-answer : goal.returns-clause-answer
returns-clause-answer g c =
    let x : DecoderState = g.P.Pieces.received c.args.received.now in
    let made = coded_shards c.encode.new.self in
    let coded = coded g (goal.at.returns-clause-answer g c).After-encode in (
      λ agree. compared-consistent x c.requires.set_up c.requires.all c.args.start c.args.end c.requires.strip made
          coded (c.are_encoded.ensures.0 agree),
      λ consistent. c.are_encoded.ensures.1
          (consistent-compared x c.requires.set_up c.requires.all c.args.start c.args.end c.requires.strip made coded
          consistent),
    )
