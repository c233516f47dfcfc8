use Rattle.std.proofs.Common.{◌≡◌, drop, map}
use Rattle.reed_solomon_simd.specs.Messages.{same_size}
use Rattle.reed_solomon_simd.proofs.messages.size_of_all.Given as goal

-- The shards from the current one on decide whether all shards have the size of the first one.
abbrev pub invariant-loop-shard : goal.invariant-loop-shard
invariant-loop-shard g l =
    same_size l.shard_bytes (map g.T.AsSlice.items l.shards)
    ≡ same_size l.shard_bytes (map g.T.AsSlice.items (drop l.shard-index l.shards))
