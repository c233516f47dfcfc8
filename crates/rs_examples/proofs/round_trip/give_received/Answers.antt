use Rattle.std.proofs.Common.{rules, ◌≡◌, ◌∙◌, sym, ap, not, Err}
use Rattle.std.specs.Iterator.Adapters.{enumerate_count}
use Rattle.reed_solomon_simd.specs.Decoder.{with_recovery}
use Rattle.reed_solomon_simd.specs.DecoderObject.{state_of}
use Rattle.reed_solomon_simd.proofs.Giving.{outcome-ok, outcome-err, reaches-err}
use Rattle.rs_examples.specs.Losing.{is_left}
use Rattle.rs_examples.proofs.InTurn.{kept-next, kept-refused, lost-next}
use Rattle.rs_examples.proofs.round_trip.give_received.Goals as goal

pub loop-index-preserved-then-contains : goal.loop-index-preserved-then-contains
loop-index-preserved-then-contains c =
    let taken_here = c.in-Some.ensures.steps in
    c.loop-index.invariant
    ∙ lost-next (λ s one. with_recovery s one.0 one.1) (is_left c.args.lost.now) (state_of c.loop-index.decoder)
    (enumerate_count c.loop-index.index-iterator) taken_here.0 taken_here.1 taken_here.2
    (ap not (sym c.contains.ensures.value ∙ c.if-contains.true))

pub loop-index-preserved : goal.loop-index-preserved
loop-index-preserved c =
    let s = state_of c.loop-index.decoder in
    let next = state_of c.add_recovery_shard.new.self in
    let taken_here = c.in-Some.ensures.steps in
    let taken = outcome-ok s next
    (with_recovery s c.in-Some.index c.in-Some.shard.now) c.in_ok-add_recovery_shard.ensures.answer
    c.add_recovery_shard.ensures.left in
    c.loop-index.invariant
    ∙ kept-next (λ t one. with_recovery t one.0 one.1) (is_left c.args.lost.now) s
    (enumerate_count c.loop-index.index-iterator) taken_here.0 taken_here.1 taken_here.2
    (ap not (sym c.contains.ensures.value ∙ c.if-contains.false)) taken

pub returns-in_err-add_recovery_shard : goal.returns-in_err-add_recovery_shard
returns-in_err-add_recovery_shard c =
    let s = state_of c.loop-index.decoder in
    let taken_here = c.in-Some.ensures.steps in
    let e = c.in_err-add_recovery_shard.field-0.0 in
    let told : c.from_residual.result ≡ Err e = search rules in
    let refused = outcome-err
    (with_recovery s c.in-Some.index c.in-Some.shard.now) e c.in_err-add_recovery_shard.ensures.answer in
    reaches-err _ (λ t. (state_of c.add_recovery_shard.new.self) ≡ t) c.from_residual.result e
    (
    c.loop-index.invariant
    ∙ kept-refused (λ t one. with_recovery t one.0 one.1) (is_left c.args.lost.now) s
    (enumerate_count c.loop-index.index-iterator) taken_here.0 taken_here.1
    (ap not (sym c.contains.ensures.value ∙ c.if-contains.false)) refused
    )
    told
