use Rattle.std.proofs.Common.{rules}
use Rattle.reed_solomon_simd.proofs.Giving.{always-run, lends-list}
use Rattle.reed_solomon_simd.specs.ResultView.{recovery_shards}
use Rattle.rs_examples.specs.Losing.{is_left}
use Rattle.rs_examples.proofs.Chains.{numbered, filtered}
use Rattle.rs_examples.proofs.rate_round_trip.give_received.Goals as goal

pub returns : goal.returns
returns g c =
    let shards = lends-list (λ shard. shard.now) _
    (recovery_shards c.args.recovery.now) c.recovery_iter.ensures.shards in
    let received = filtered c.filter-received.result _ (is_left c.args.lost.now) _
    (numbered c.enumerate.result shards c.enumerate.ensures.source c.enumerate.ensures.count)
    c.filter-received.ensures.source c.filter-received.ensures.closure (λ x b q k. search rules) in
    always-run c.add_recovery.ensures _ received.runs
