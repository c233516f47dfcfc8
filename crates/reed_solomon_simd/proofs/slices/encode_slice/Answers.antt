use Rattle.std.proofs.Common.{rules}
use Rattle.std.proofs.lemmas.Iterator.{YieldsList-from_slice, YieldsList-from_map_by}
use Rattle.reed_solomon_simd.proofs.slices.encode_slice.Goals as goal

pub returns : goal.returns
returns g c =
    let shards = YieldsList-from_map_by _ (λ shard. shard.now) g.T.AsSlice.items
    (YieldsList-from_slice c.args.original.now cc) c.map-shards.ensures.closure (λ x r q k. search rules) in
    record { answer = c.encode.ensures.answer _ shards.runs; coded = c.encode.ensures.coded _ shards.runs }
