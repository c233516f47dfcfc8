use Rattle.std.proofs.Common.{rules}
use Rattle.std.proofs.lemmas.Iterator.{YieldsList-from_slice, YieldsList-from_map_by}
use Rattle.std.proofs.lemmas.Iterator.Consumers.{map_from_collect}
use Rattle.rs_examples.specs.Losing.{is_left}
use Rattle.rs_examples.proofs.Chains.{numbered, filtered}
use Rattle.rs_examples.proofs.reconstruct_round_trip.left_shards.Goals as goal

pub returns : goal.returns
returns c =
    map_from_collect c.collect.result c.collect.ensures.ran
    (filtered c.filter.result _ (is_left c.args.lost.now) _
    (numbered c.enumerate.result
    (YieldsList-from_map_by _ (λ shard. shard.now) (λ vector. vector.items)
    (YieldsList-from_slice c.args.shards.now cc) c.map.ensures.closure (λ x r q k. search rules))
    c.enumerate.ensures.source c.enumerate.ensures.count)
    c.filter.ensures.source c.filter.ensures.closure (λ x b q k. search rules))
