use Rattle.std.proofs.Common.{rules, ◌≡◌, refl}
use Rattle.reed_solomon_simd.proofs.Giving.{leads-taken, leads-refused, leads-ended, outcome-ok, outcome-err}
use Rattle.rs_examples.proofs.adding.add_shards.Goals as goal

pub loop-shard-preserved : goal.loop-shard-preserved
loop-shard-preserved g c =
    leads-taken c.loop-shard.invariant c.in-Some.ensures.steps
    (outcome-ok _ _ _ c.in_ok-add_original_shard.ensures.answer c.in_ok-add_original_shard.ensures.left)

pub returns-in_err-add_original_shard : goal.returns-in_err-add_original_shard
returns-in_err-add_original_shard g c =
    leads-refused (λ s. g.X.RateEncoder.state c.add_original_shard.new.self ≡ s) c.loop-shard.invariant
    c.in-Some.ensures.steps (outcome-err _ _ c.in_err-add_original_shard.ensures.answer) (search rules)

pub returns : goal.returns
returns g c = leads-ended
    (λ s. g.X.RateEncoder.state c.loop-shard.encoder ≡ s) c.loop-shard.invariant c.in-None.ensures.steps refl
