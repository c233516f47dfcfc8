use Rattle.std.proofs.Common.{◌<◌, All}
use Rattle.std.specs.List.{AllWithin}
use Rattle.rs_field.proofs.rows.bytes.slices_are_bytes.Given as goal

-- The shards below the index consist of bytes.
abbrev pub invariant-loop-shard : goal.invariant-loop-shard
invariant-loop-shard l = AllWithin (λ shard. All (λ b. b < 256) shard.now) l.shards 0 l.shard-index
