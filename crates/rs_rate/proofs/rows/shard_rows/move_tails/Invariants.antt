use Rattle.std.proofs.Common.{◌≡◌, ℕ, ◌<◌, ◌≤◌}
use Rattle.rs_field.specs.rows.Layout.{row_len}
use Rattle.rs_field.specs.words.StepBounds.{CountsRows}
use Rattle.rs_rate.specs.rows.ShardRows.{row_chunk, shard_laid_out, shard_in_order}
use Rattle.rs_rate.proofs.rows.shard_rows.move_tails.Given as goal

abbrev pub invariant-loop-i : goal.invariant-loop-i
invariant-loop-i l = record {
  moved : (j : ℕ) → j < l.i → shard_in_order l.chunks l.shard_bytes j ≡ shard_laid_out l.initial.chunks l.shard_bytes j;
  left : (j k : ℕ) → l.i ≤ j → k < row_len l.shard_bytes
      → row_chunk l.chunks l.shard_bytes j k ≡ row_chunk l.initial.chunks l.shard_bytes j k;
  counts : CountsRows l.i l.initial.steps l.steps;
}
