use Rattle.std.proofs.Common.{rules}
use Rattle.std.proofs.lemmas.Iterator.{YieldsList-from_slice, YieldsList-from_map_by}
use Rattle.reed_solomon_simd.proofs.Giving.{always-run}
use Rattle.rs_examples.proofs.rate_round_trip.give_all.Goals as goal

pub returns : goal.returns
returns g c =
    let shards = YieldsList-from_map_by _ (λ shard. shard.now) (λ vector. vector.items)
    (YieldsList-from_slice c.args.originals.now cc) c.map-shards.ensures.closure (λ x r q k. search rules) in
    always-run c.add_shards.ensures _ shards.runs
