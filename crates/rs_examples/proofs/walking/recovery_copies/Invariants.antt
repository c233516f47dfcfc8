use Rattle.std.proofs.Common.{◌≡◌, ◌++◌, map}
use Rattle.reed_solomon_simd.specs.ResultView.{recovery_shards}
use Rattle.rs_examples.proofs.walking.recovery_copies.Given as goal

-- The copies so far and the remaining shards are all recovery shards.
abbrev pub invariant-loop-shard : goal.invariant-loop-shard
invariant-loop-shard l = map (λ shard. shard.items) l.shards.items ++ l.shard-iterator ≡ recovery_shards l.lent
