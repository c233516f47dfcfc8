use Rattle.std.proofs.Common.{◌≡◌, map, take}
use Rattle.reed_solomon_simd.specs.Messages.{joined}
use Rattle.reed_solomon_simd.proofs.messages.join.Given as goal

-- The message has the bytes of the shards so far, up to its length.
abbrev pub invariant-loop-shard : goal.invariant-loop-shard
invariant-loop-shard g l =
    l.message.items ≡ take l.total (joined (map g.T.AsSlice.items (take l.shard-index l.shards)))
