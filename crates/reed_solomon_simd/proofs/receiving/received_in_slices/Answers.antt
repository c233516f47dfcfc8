use Rattle.std.proofs.Common.{rules, ℕ, List, map, Bor}
use Rattle.std.proofs.lemmas.Iterator.{YieldsList-from_slice, YieldsList-from_map_by}
use Rattle.rs_field.specs.code.Column.{Shard}
use Rattle.rs_field.specs.code.OneCall.{Items}
use Rattle.rs_rate.proofs.objects_lemmas.Giving.{always-both}
use Rattle.reed_solomon_simd.proofs.receiving.received_in_slices.Goals as goal

-- The shards of borrowed items, with their indexes.
abbrev lent : List (ℕ × Bor Shard) → Items
lent items = map (λ item. (item.0, item.1.now)) items

pub returns : goal.returns
returns c =
    let own = YieldsList-from_map_by _ (λ item. (item.0, item.1.now)) (λ item. (item.0, item.1.now))
    (YieldsList-from_slice c.args.original.now cc) c.map-lent_originals.ensures.closure (λ x r q k. search rules) in
    let other = YieldsList-from_map_by _ (λ item. (item.0, item.1.now)) (λ item. (item.0, item.1.now))
    (YieldsList-from_slice c.args.recovery.now cc) c.map-lent_recovery.ensures.closure (λ x r q k. search rules) in
    always-both (λ item. (item.0, item.1.now)) (λ item. (item.0, item.1.now)) _ c.received_of_size.ensures
    (lent c.args.original.now) (lent c.args.recovery.now) own.runs other.runs c.size_in_slices-shard_bytes.ensures
