use Rattle.std.proofs.Common.{◌+◌, List, refl, sym, ap, ◌∙◌, subst, inl, inr, arith}
use Rattle.std.proofs.lemmas.Bool.{cases_lt}
use Rattle.rs_field.specs.code.Column.{Shard}
use Rattle.rs_field.specs.code.Decoder.{DecoderState}
use Rattle.rs_field.specs.code.PieceStates.{state_of_pieces}
use Rattle.rs_rate.specs.objects.StripView.{code_of, coded_shards}
use Rattle.reed_solomon_simd.proofs.BaseSums.{within-pieces}
use Rattle.reed_solomon_simd.proofs.SyndromeRounds.{AddedBelow, added-none, added-more, added-passed, lent-count}
use Rattle.reed_solomon_simd.proofs.SyndromeRounds.{lent-size}
use Rattle.reed_solomon_simd.proofs.strip_syndromes.add_received.Goals.{in-Some, in_default}
use Rattle.reed_solomon_simd.proofs.strip_syndromes.add_received.Goals as goal

pub add_to_recovery-requires-clause-index : goal.add_to_recovery-requires-clause-index
add_to_recovery-requires-clause-index g c =
    let t : DecoderState = state_of_pieces c.args.start c.args.end (g.P.Pieces.received c.args.received.now) in
    let count = lent-count c.loop-index.encoder t.configuration (c.loop-index.invariant.code ∙ c.requires.code)
    in
    omega (arith, count, c.loop-index-test.true, c.counts-index-end.ensures.recovery)

pub add_to_recovery-requires-clause-sized : goal.add_to_recovery-requires-clause-sized
add_to_recovery-requires-clause-sized g c =
    let s : DecoderState = g.P.Pieces.received c.args.received.now in
    let t : DecoderState = state_of_pieces c.args.start c.args.end s in
    let within = within-pieces c.args.start c.args.end s.configuration.recovery_count s.configuration.shard_bytes
    s.recovery c.requires.strip c.requires.set_up.recovery_within in
    (within.sized c.loop-index.index c.in-Some.piece.now (sym c.in-Some.ensures)).length_is
    ∙ sym (lent-size c.loop-index.encoder t.configuration (c.loop-index.invariant.code ∙ c.requires.code))

pub loop-index-init : goal.loop-index-init
loop-index-init g c =
    let t : DecoderState = state_of_pieces c.args.start c.args.end (g.P.Pieces.received c.args.received.now) in
    record { code = refl; reads = refl; added = added-none t.recovery (coded_shards c.args.encoder.now) }

pub loop-index-preserved : goal.loop-index-preserved
loop-index-preserved g c =
    let t : DecoderState = state_of_pieces c.args.start c.args.end (g.P.Pieces.received c.args.received.now) in
    let encoded : List Shard = coded_shards c.args.encoder.now in
    let before = c.loop-index.invariant in
    elim c.match-piece.branch [
      | in-Some w ↦
          record {
            code = ap (λ e. code_of e) w.encoder-is ∙ w.add_to_recovery.ensures.code ∙ before.code;
            reads = ap (λ e. e.reads) w.encoder-is ∙ w.add_to_recovery.ensures.reads ∙ before.reads;
            added = subst (λ e. AddedBelow (c.loop-index.index + 1) t.recovery encoded (coded_shards e))
                (sym w.encoder-is)
                (added-more c.loop-index.index t.recovery w.in-Some.piece.now encoded
                (coded_shards c.loop-index.encoder) (coded_shards w.add_to_recovery.new.self)
                (sym w.in-Some.ensures) w.add_to_recovery.ensures.sum w.add_to_recovery.ensures.others before.added);
          }
      | in_default w ↦
          record {
            code = ap (λ e. code_of e) w.encoder-is ∙ before.code;
            reads = ap (λ e. e.reads) w.encoder-is ∙ before.reads;
            added = subst (λ e. AddedBelow (c.loop-index.index + 1) t.recovery encoded (coded_shards e))
                (sym w.encoder-is)
                (added-passed c.loop-index.index t.recovery encoded (coded_shards c.loop-index.encoder)
                (sym w.in_default.ensures) before.added);
          }
    ]

pub returns-clause-made : goal.returns-clause-made
returns-clause-made g c =
    let s : DecoderState = g.P.Pieces.received c.args.received.now in
    let t : DecoderState = state_of_pieces c.args.start c.args.end s in
    let within = within-pieces c.args.start c.args.end s.configuration.recovery_count s.configuration.shard_bytes
    s.recovery c.requires.strip c.requires.set_up.recovery_within in
    record {
      encoded = coded_shards c.args.encoder.now;
      coded = c.requires.coded;
      sums = λ i shard e. elim (cases_lt i c.loop-index.index) [
        | inl below ↦ c.loop-index.invariant.added.added i shard below e
        | inr past ↦
            let none = within.none_past i (omega (
              arith,
              past,
              c.loop-index-test.false,
              c.counts-index-end.ensures.recovery,
            )) in
            absurd (let no : ⊥ = cc (none, e) in no)
      ];
    }
