use Rattle.std.proofs.Common.{◌≡◌, ℕ, ◌+◌, ◌-◌, ◌*◌, ◌/◌, ◌%◌, ◌<◌, ◌≤◌, length}
use Rattle.rs_field.specs.rows.Rows.{word_in}
use Rattle.rs_field.specs.words.StepBounds.{CountsUpTo, transform_steps}
use Rattle.rs_rate.specs.passes.Coding.{SumsBlocks, further_blocks}
use Rattle.rs_rate.specs.passes.Reading.{message_word}
use Rattle.rs_rate.proofs.passes.read_encoding.MessageRows.sum_blocks.Given as goal

abbrev pub invariant-loop-start : goal.invariant-loop-start
invariant-loop-start g l = record {
  first : l.self.block ≤ l.start;
  last : l.start < l.self.count + l.self.block;
  aligned : l.start % l.self.block ≡ 0;
  points : l.start + l.self.block ≤ 65536;
  spare : length l.spare ≡ length l.initial.spare;
  length : length l.sums ≡ length l.initial.sums;
  sums : (k s : ℕ) → k < l.self.len → s < 32
      → SumsBlocks l.self.block (l.start / l.self.block) l.self.count
      (message_word (g.M.StripMessage.shards l.self.message.now) k s) (word_in l.sums l.self.len k s);
  counts : CountsUpTo (l.self.block + transform_steps l.self.block + further_blocks l.self.block l.start *
      (2 * l.self.block + transform_steps l.self.block)) 0 0 l.fn.steps l.steps;
}

abbrev pub decreases-loop-start : goal.decreases-loop-start
decreases-loop-start g l = l.self.count - l.start
