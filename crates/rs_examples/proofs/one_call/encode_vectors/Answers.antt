use Rattle.std.proofs.Common.{rules}
use Rattle.std.proofs.lemmas.Iterator.{YieldsList-from_slice, YieldsList-from_map_by}
use Rattle.rs_examples.proofs.one_call.encode_vectors.Goals as goal

pub returns : goal.returns
returns c =
    let runs = YieldsList-from_map_by _ (λ shard. shard.now) (λ vector. vector.items)
    (YieldsList-from_slice c.args.original.now cc) c.map-shards.ensures.closure (λ x r q k. search rules) in
    c.encode.ensures.answer _ runs.runs
