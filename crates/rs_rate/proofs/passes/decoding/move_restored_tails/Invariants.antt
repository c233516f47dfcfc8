use Rattle.std.proofs.Common.{◌≡◌, ℕ, ◌+◌, ◌<◌, ◌≤◌, true}
use Rattle.rs_field.specs.words.StepBounds.{CountsUpTo}
use Rattle.rs_field.specs.rows.Layout.{row_len}
use Rattle.rs_field.specs.rows.MarkedRows.{is_marked}
use Rattle.rs_rate.specs.rows.Marks.{restored_marks}
use Rattle.rs_rate.specs.rows.ShardRows.{row_chunk, shard_laid_out, shard_in_order}
use Rattle.rs_rate.proofs.passes.decoding.move_restored_tails.Given as goal

abbrev pub invariant-loop-i : goal.invariant-loop-i
invariant-loop-i l = record {
  moved : (j : ℕ) → j < l.i → is_marked (restored_marks l.marks) (l.configuration.frame.originals_from + j) ≡ true
      → shard_in_order l.chunks l.configuration.shard_bytes (l.configuration.frame.originals_from + j)
      ≡ shard_laid_out l.initial.chunks l.configuration.shard_bytes (l.configuration.frame.originals_from + j);
  left : (q k : ℕ) → l.configuration.frame.originals_from + l.i ≤ q → k < row_len l.configuration.shard_bytes
      → row_chunk l.chunks l.configuration.shard_bytes q k
      ≡ row_chunk l.initial.chunks l.configuration.shard_bytes q k;
  counts : CountsUpTo l.i 0 0 l.initial.steps l.steps;
}
