use Rattle.std.proofs.Common.{rules}
use Rattle.std.proofs.lemmas.Iterator.{YieldsList-from_slice, YieldsList-from_map_by}
use Rattle.reed_solomon_simd.proofs.Giving.{always-run}
use Rattle.rs_examples.specs.Losing.{is_left}
use Rattle.rs_examples.proofs.Chains.{numbered, filtered}
use Rattle.rs_examples.proofs.rate_round_trip.give_kept.Goals as goal

pub returns : goal.returns
returns g c =
    let shards = YieldsList-from_map_by _ (λ shard. shard.now) (λ vector. vector.items)
    (YieldsList-from_slice c.args.originals.now cc) c.map.ensures.closure (λ x r q k. search rules) in
    let kept = filtered c.filter-kept.result _ (is_left c.args.lost.now) _
    (numbered c.enumerate.result shards c.enumerate.ensures.source c.enumerate.ensures.count)
    c.filter-kept.ensures.source c.filter-kept.ensures.closure (λ x b q k. search rules) in
    always-run c.add_originals.ensures _ kept.runs
