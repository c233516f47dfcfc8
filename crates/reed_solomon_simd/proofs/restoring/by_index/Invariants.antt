use Rattle.std.proofs.Common.{map}
use Rattle.std.specs.Vec.Iter.{into_iter_items}
use Rattle.rs_field.specs.code.OneCall.{shards_in}
use Rattle.reed_solomon_simd.specs.ReceivedState.{received_state}
use Rattle.reed_solomon_simd.proofs.ByIndex.{AreEntered}
use Rattle.reed_solomon_simd.proofs.restoring.by_index.Given as goal

-- The vectors taken so far are in the map, and the iterator holds the others.
abbrev pub invariant-loop-index : goal.invariant-loop-index
invariant-loop-index l =
    AreEntered (received_state l.received) l.index (map (λ v. v.items) (into_iter_items l.left)) (shards_in l.vectors)
