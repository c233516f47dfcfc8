use Rattle.std.proofs.Common.{◌≡◌, ℕ, ◌+◌, ◌-◌, ◌*◌, ◌/◌, ◌%◌, ◌<◌, ◌≤◌}
use Rattle.rs_field.specs.words.StepBounds.{CountsUpTo, transform_steps}
use Rattle.rs_field.specs.rows.View.{cell, word, Fits, SameExtent}
use Rattle.rs_rate.specs.passes.Coding.{SumsBlocks, further_blocks}
use Rattle.rs_rate.proofs.passes.high_encoding.sum_blocks.Given as goal

abbrev pub invariant-loop-start : goal.invariant-loop-start
invariant-loop-start g l = record {
  first : l.block ≤ l.start;
  whole : l.start % l.block ≡ 0;
  within : l.start ≤ l.fn.rows.shard_count;
  fits : Fits l.rows;
  extent : SameExtent l.fn.rows l.rows;
  left : (i k : ℕ) → k < l.fn.rows.shard_len_64 → l.start ≤ i → cell l.rows k i ≡ cell l.fn.rows k i;
  sums : (k s : ℕ) → k < l.fn.rows.shard_len_64 → s < 32
      → SumsBlocks l.block (l.start / l.block) l.original_count (word l.fn.rows k s) (word l.rows k s);
  counts : CountsUpTo (l.block + transform_steps l.block + further_blocks l.block l.start *
      (2 * l.block + transform_steps l.block)) 0 0 l.fn.steps l.steps;
}

abbrev pub decreases-loop-start : goal.decreases-loop-start
decreases-loop-start g l = l.original_count - l.start
