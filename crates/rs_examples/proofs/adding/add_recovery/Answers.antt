use Rattle.std.proofs.Common.{rules, ◌≡◌, refl}
use Rattle.reed_solomon_simd.proofs.Giving.{leads-taken, leads-refused, leads-ended, outcome-ok, outcome-err}
use Rattle.rs_examples.proofs.adding.add_recovery.Goals as goal

pub loop-index-preserved : goal.loop-index-preserved
loop-index-preserved g c =
    leads-taken {item = (c.in-Some.index, c.in-Some.shard)} c.loop-index.invariant c.in-Some.ensures.steps
    (outcome-ok _ _ _ c.in_ok-add_recovery_shard.ensures.answer c.in_ok-add_recovery_shard.ensures.left)

pub returns-in_err-add_recovery_shard : goal.returns-in_err-add_recovery_shard
returns-in_err-add_recovery_shard g c =
    leads-refused {item = (c.in-Some.index, c.in-Some.shard)}
    (λ s. g.X.RateDecoder.state c.add_recovery_shard.new.self ≡ s) c.loop-index.invariant c.in-Some.ensures.steps
    (outcome-err _ _ c.in_err-add_recovery_shard.ensures.answer) (search rules)

pub returns : goal.returns
returns g c = leads-ended
    (λ s. g.X.RateDecoder.state c.loop-index.decoder ≡ s) c.loop-index.invariant c.in-None.ensures.steps refl
