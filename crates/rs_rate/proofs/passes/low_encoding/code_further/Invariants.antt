use Rattle.std.proofs.Common.{◌≡◌, ℕ, ◌+◌, ◌-◌, ◌*◌, ◌%◌, ◌<◌, ◌≤◌}
use Rattle.rs_field.specs.words.StepBounds.{CountsUpTo, transform_steps}
use Rattle.rs_field.specs.words.Transform.{forward}
use Rattle.rs_field.specs.rows.View.{cell, word, Fits, SameExtent}
use Rattle.rs_rate.specs.passes.Coding.{further_blocks}
use Rattle.rs_rate.proofs.passes.low_encoding.code_further.Given as goal

abbrev pub invariant-loop-start : goal.invariant-loop-start
invariant-loop-start g l = record {
  first : l.block ≤ l.start;
  whole : l.start % l.block ≡ 0;
  within : l.start - l.block ≤ l.fn.rows.shard_count - l.block;
  fits : Fits l.rows;
  extent : SameExtent l.initial.rows l.rows;
  combination : (i k : ℕ) → k < l.initial.rows.shard_len_64 → i < l.block → cell l.rows k i ≡ cell l.initial.rows k i;
  values : (k s i : ℕ) → k < l.initial.rows.shard_len_64 → s < 32 → l.block ≤ i → i < l.start → i < l.recovery_count
      → word l.rows k s i ≡ forward l.block 0 (λ q. word l.initial.rows k s q) (l.block + i);
  counts : CountsUpTo (further_blocks l.block l.start * (l.block + transform_steps l.block)) 0 0 l.fn.steps l.steps;
}

abbrev pub decreases-loop-start : goal.decreases-loop-start
decreases-loop-start g l = l.recovery_count - l.start
