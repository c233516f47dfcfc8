use Rattle.std.proofs.Common.{◌≡◌, ℕ, ◌+◌, ◌-◌, ◌<◌, ◌≤◌, true}
use Rattle.std.specs.Prelude.{slice_index}
use Rattle.rs_field.specs.words.StepBounds.{CountsUpTo}
use Rattle.rs_field.specs.words.Field.{product, power}
use Rattle.rs_field.specs.rows.View.{cell, word, Fits, SameExtent}
use Rattle.rs_field.specs.rows.MarkedRows.{is_marked}
use Rattle.rs_rate.specs.rows.Marks.{restored_marks}
use Rattle.rs_rate.proofs.passes.restoring_rows.reveal_rows.Given as goal

abbrev pub invariant-loop-i : goal.invariant-loop-i
invariant-loop-i g l = record {
  fits : Fits l.rows;
  extent : SameExtent l.initial.rows l.rows;
  revealed : (k s j : ℕ) → k < l.initial.rows.shard_len_64 → s < 32 → j < l.i
      → is_marked (restored_marks l.marks) (l.configuration.frame.originals_from + j) ≡ true
      → word l.rows k s (l.configuration.frame.originals_from + j)
      ≡ product (word l.initial.rows k s (l.configuration.frame.originals_from + j))
      (power (65535 - slice_index l.locator (l.configuration.frame.originals_from + j)));
  left : (k q : ℕ) → k < l.initial.rows.shard_len_64 → l.configuration.frame.originals_from + l.i ≤ q
      → cell l.rows k q ≡ cell l.initial.rows k q;
  counts : CountsUpTo l.i 0 0 l.initial.steps l.steps;
}
