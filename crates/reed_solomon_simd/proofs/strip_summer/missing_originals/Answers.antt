use Rattle.std.proofs.Common.{rules, ◌≡◌, ℕ, ◌+◌, sym, ap, ◌∙◌, subst}
use Rattle.std.specs.Prelude.{is_some}
use Rattle.rs_field.specs.code.Decoder.{DecoderState}
use Rattle.reed_solomon_simd.specs.Reconstructed.{NamesMissing}
use Rattle.reed_solomon_simd.proofs.MissingLemmas.{names-none, names-received, names-missing}
use Rattle.reed_solomon_simd.proofs.strip_summer.missing_originals.Goals.{then-not-is_received+in_ok-push}
use Rattle.reed_solomon_simd.proofs.strip_summer.missing_originals.Goals.{else-not-is_received}
use Rattle.reed_solomon_simd.proofs.strip_summer.missing_originals.Goals as goal

pub loop-index-init : goal.loop-index-init
loop-index-init g c =
    let s : DecoderState = g.P.Pieces.received c.args.received.now in
    subst (NamesMissing 0 s) (sym c.in_ok-missing.ensures.items) (names-none s)

pub loop-index-preserved : goal.loop-index-preserved
loop-index-preserved g c =
    let s : DecoderState = g.P.Pieces.received c.args.received.now in
    let index : ℕ = c.loop-index.index in
    let received : is_some ((g.P.Pieces.received c.args.received.now).originals c.loop-index.index)
    ≡ c.is_received.result =
    sym c.is_received.ensures in
    elim c.if-not-is_received.branch [
      | then-not-is_received+in_ok-push w ↦
          subst (NamesMissing (index + 1) s)
          (sym (ap (λ v. v.items) w.missing-is ∙ w.in_ok-push.ensures.items))
          (names-missing index s c.loop-index.missing.items c.loop-index.invariant (search rules)
          (received ∙ w.if-not-is_received.true))
      | else-not-is_received w ↦
          subst (NamesMissing (index + 1) s) (sym (ap (λ v. v.items) w.missing-is))
          (names-received index s c.loop-index.missing.items c.loop-index.invariant
          (received ∙ w.if-not-is_received.false))
    ]

pub returns-clause-made : goal.returns-clause-made
returns-clause-made g c =
    let s : DecoderState = g.P.Pieces.received c.args.received.now in
    subst (λ n. NamesMissing n s c.loop-index.missing.items)
    (let e : c.loop-index.index ≡ s.configuration.original_count = search rules in e) c.loop-index.invariant
