use Rattle.std.proofs.Common.{map}
use Rattle.rs_field.specs.code.OneCall.{shards_in}
use Rattle.reed_solomon_simd.proofs.CompletingLemmas.{AreTaken}
use Rattle.reed_solomon_simd.proofs.completing.in_order.Given as goal

-- The originals below the index were taken from the map, and the others are still in it.
abbrev pub invariant-loop-index : goal.invariant-loop-index
invariant-loop-index l =
    AreTaken (shards_in l.initial.originals) l.index-counter (shards_in l.originals)
    (map (λ shard. shard.items) l.shards.items)
