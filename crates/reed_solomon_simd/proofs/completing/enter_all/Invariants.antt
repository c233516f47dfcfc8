use Rattle.std.proofs.Common.{◌≡◌, drop, map}
use Rattle.rs_field.specs.code.OneCall.{one_by_one, shards_in}
use Rattle.reed_solomon_simd.specs.Messages.{enter_outcome}
use Rattle.reed_solomon_simd.proofs.completing.enter_all.Given as goal

-- Entering all originals into the first map has the same outcome as entering the remaining ones into the current map.
abbrev pub invariant-loop-item : goal.invariant-loop-item
invariant-loop-item g l =
    one_by_one (enter_outcome l.original_count) (shards_in l.initial.originals)
    (map (λ item. (item.0, g.O.AsSlice.items item.1)) l.received)
    ≡ one_by_one (enter_outcome l.original_count) (shards_in l.originals)
    (map (λ item. (item.0, g.O.AsSlice.items item.1)) (drop l.item-index l.received))
