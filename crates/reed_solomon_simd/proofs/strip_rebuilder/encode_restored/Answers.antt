use Rattle.std.proofs.Common.{◌≡◌, ◌-◌, List, All, length, sym, ap, subst, ◌∙◌}
use Rattle.rs_field.specs.code.Code.{AreRecovery}
use Rattle.rs_field.specs.code.Column.{Shard}
use Rattle.rs_field.specs.code.Configuration.{Configuration, configuration}
use Rattle.rs_field.specs.code.Decoder.{DecoderState}
use Rattle.rs_field.specs.code.PieceStates.{state_of_pieces}
use Rattle.rs_field.proofs.words_lemmas.UpTo.{length-up_to}
use Rattle.rs_rate.specs.objects.ResultView.{restored_originals}
use Rattle.rs_rate.specs.objects.StripView.{coded_shards}
use Rattle.reed_solomon_simd.specs.Rounds.{own_message}
use Rattle.reed_solomon_simd.proofs.RebuiltStrips.{own-agreeing}
use Rattle.reed_solomon_simd.proofs.StripLoops.{strip-whole}
use Rattle.reed_solomon_simd.proofs.strip_rebuilder.encode_restored.Goals as goal

pub encode-requires-clause-number : goal.encode-requires-clause-number
encode-requires-clause-number g c =
    length-up_to _ _ ∙ sym (ap (λ (d : Configuration). d.original_count) c.requires.ready.code)

pub encode-requires-clause-whole : goal.encode-requires-clause-whole
encode-requires-clause-whole g c reads = strip-whole c.requires.strip (c.requires.ready.whole reads)

pub encode-requires-clause-sized : goal.encode-requires-clause-sized
encode-requires-clause-sized g c =
    let x : DecoderState = g.P.Pieces.received c.args.received.now in
    let agrees = c.requires.restored.agrees in
    subst (λ (l : List Shard). All (λ piece. length piece ≡ c.args.end - c.args.start) l)
    (sym (own-agreeing (state_of_pieces c.args.start c.args.end x) (restored_originals c.args.restored.now)
    c.requires.restored.message c.requires.restored agrees))
    (λ i d h. (agrees.shards.each i d h).length_is)

pub returns-clause-coded : goal.returns-clause-coded
returns-clause-coded g c message agrees =
    let x : DecoderState = g.P.Pieces.received c.args.received.now in
    let t : DecoderState = state_of_pieces c.args.start c.args.end x in
    subst (λ (l : List Shard). AreRecovery (state_of_pieces c.args.start c.args.end x).configuration l
    (coded_shards c.encode.new.self))
    (own-agreeing t (restored_originals c.args.restored.now) message c.requires.restored agrees)
    (subst (λ (d : Configuration). AreRecovery d (own_message t (restored_originals c.args.restored.now))
    (coded_shards c.encode.new.self))
    (c.encode.ensures.code ∙ ap (λ (d : Configuration). configuration d.rate d.original_count d.recovery_count
    (c.args.end - c.args.start)) c.requires.ready.code) c.encode.ensures.coded)
