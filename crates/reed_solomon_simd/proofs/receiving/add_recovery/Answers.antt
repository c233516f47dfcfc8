use Rattle.std.proofs.Common.{rules, ◌≡◌, refl}
use Rattle.rs_rate.proofs.objects_lemmas.Giving.{leads-taken, leads-refused, leads-ended, outcome-ok, outcome-err}
use Rattle.reed_solomon_simd.specs.ReceivedState.{received_state}
use Rattle.reed_solomon_simd.proofs.receiving.add_recovery.Goals as goal

pub loop-index-preserved : goal.loop-index-preserved
loop-index-preserved g c =
    leads-taken {item = (c.in-Some.index, c.in-Some.shard)} c.loop-index.invariant c.in-Some.ensures.steps
    (outcome-ok _ _ _ c.in_ok-add_recovery.ensures.answer c.in_ok-add_recovery.ensures.left)

pub returns-in_err-add_recovery : goal.returns-in_err-add_recovery
returns-in_err-add_recovery g c =
    leads-refused {item = (c.in-Some.index, c.in-Some.shard)}
    (λ s. received_state c.add_recovery.new.self ≡ s) c.loop-index.invariant c.in-Some.ensures.steps
    (outcome-err _ _ c.in_err-add_recovery.ensures.answer) (search rules)

pub returns : goal.returns
returns g c = leads-ended
    (λ s. received_state c.loop-index.received ≡ s) c.loop-index.invariant c.in-None.ensures.steps refl
