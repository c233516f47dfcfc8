use Rattle.std.proofs.Common.{◌-◌, sym, ap, subst, ◌∙◌}
use Rattle.rs_field.specs.code.Code.{AreRecovery}
use Rattle.rs_field.specs.code.Configuration.{Configuration, configuration}
use Rattle.rs_field.specs.code.Decoder.{DecoderState}
use Rattle.rs_field.specs.code.PieceStates.{state_of_pieces}
use Rattle.rs_field.proofs.words_lemmas.UpTo.{length-up_to}
use Rattle.rs_rate.specs.objects.StripView.{coded_shards}
use Rattle.reed_solomon_simd.specs.Syndromes.{zeroed}
use Rattle.reed_solomon_simd.proofs.BaseSums.{given}
use Rattle.reed_solomon_simd.proofs.SyndromeRounds.{fewer-zeros}
use Rattle.reed_solomon_simd.proofs.SyndromeSums.{zeroed-shards}
use Rattle.reed_solomon_simd.proofs.StripLoops.{strip-whole}
use Rattle.reed_solomon_simd.proofs.strip_syndromes.make_syndromes.Goals as goal

pub invariant_of-strip-clause-blank : goal.invariant_of-strip-clause-blank
invariant_of-strip-clause-blank g c = fewer-zeros (c.args.end - c.args.start) 2048 c.requires.few

pub encode-requires-clause-number : goal.encode-requires-clause-number
encode-requires-clause-number g c =
    length-up_to _ _ ∙ sym (ap (λ (d : Configuration). d.original_count) c.requires.ready.code)

pub encode-requires-clause-sized : goal.encode-requires-clause-sized
encode-requires-clause-sized g c i d h =
    let x : DecoderState = g.P.Pieces.received c.args.received.now in
    let t : DecoderState = state_of_pieces c.args.start c.args.end x in
    ((zeroed-shards t (given x c.requires.set_up c.args.start c.args.end c.requires.strip)).each i d h).length_is

pub encode-requires-clause-whole : goal.encode-requires-clause-whole
encode-requires-clause-whole g c reads = strip-whole c.requires.strip (c.requires.ready.whole reads)

pub add_received-requires-clause-code : goal.add_received-requires-clause-code
add_received-requires-clause-code g c =
    c.encode.ensures.code ∙ ap (λ (d : Configuration). configuration d.rate d.original_count d.recovery_count
    (c.args.end - c.args.start)) c.requires.ready.code

pub add_received-requires-clause-coded : goal.add_received-requires-clause-coded
add_received-requires-clause-coded g c =
    let x : DecoderState = g.P.Pieces.received c.args.received.now in
    let t : DecoderState = state_of_pieces c.args.start c.args.end x in
    subst (λ (d : Configuration). AreRecovery d (zeroed t) (coded_shards c.encode.new.self))
    (c.encode.ensures.code ∙ ap (λ (d : Configuration). configuration d.rate d.original_count d.recovery_count
    (c.args.end - c.args.start)) c.requires.ready.code) c.encode.ensures.coded
