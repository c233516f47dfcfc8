use Rattle.std.proofs.Common.{◌≡◌, ℕ, ◌<◌, length}
use Rattle.rs_field.specs.code.Column.{shard_at}
use Rattle.rs_rate.specs.rows.ShardRows.{shard_laid_out}
use Rattle.rs_rate.proofs.passes.message_encoding.put_message.Given as goal

abbrev pub invariant-loop-index : goal.invariant-loop-index
invariant-loop-index g l = record {
  length : length l.chunks ≡ length l.initial.chunks;
  laid : (i : ℕ) → i < l.index
      → shard_laid_out l.chunks l.configuration.shard_bytes i ≡ shard_at (g.M.StripMessage.shards l.message) i;
}
