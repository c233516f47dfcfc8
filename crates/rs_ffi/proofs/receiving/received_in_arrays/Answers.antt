use Rattle.std.proofs.Common.{rules}
use Rattle.std.proofs.lemmas.Iterator.{YieldsList-from_slice, YieldsList-from_map_by}
use Rattle.reed_solomon_simd.proofs.Giving.{always-both}
use Rattle.rs_ffi.specs.Arrays.{items_of}
use Rattle.rs_ffi.proofs.receiving.received_in_arrays.Goals as goal

pub returns : goal.returns
returns c =
    let own = YieldsList-from_map_by _ (λ item. (item.0, item.1.now)) (λ shard. (shard.index, shard.bytes.now))
    (YieldsList-from_slice c.args.originals.now cc) c.map-lent_originals.ensures.closure (λ x r q k. search rules) in
    let other = YieldsList-from_map_by _ (λ item. (item.0, item.1.now)) (λ shard. (shard.index, shard.bytes.now))
    (YieldsList-from_slice c.args.recovery.now cc) c.map-lent_recovery.ensures.closure (λ x r q k. search rules) in
    always-both (λ item. (item.0, item.1.now)) (λ item. (item.0, item.1.now)) _ c.received_of_size.ensures
    (items_of c.args.originals.now) (items_of c.args.recovery.now) own.runs other.runs
    c.size_in_arrays-shard_bytes.ensures
