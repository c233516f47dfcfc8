use Rattle.std.proofs.Common.{◌≡◌, ℕ, ◌<◌, ◌≤◌, false}
use Rattle.std.specs.Prelude.{replicate}
use Rattle.rs_field.specs.words.StepBounds.{CountsUpTo}
use Rattle.rs_field.specs.rows.View.{cell, word, Fits, SameExtent}
use Rattle.rs_field.specs.rows.MarkedRows.{is_marked}
use Rattle.rs_rate.specs.passes.Decoding.{located_word}
use Rattle.rs_rate.proofs.passes.restoring_rows.locate_rows.Given as goal

abbrev pub invariant-loop-p : goal.invariant-loop-p
invariant-loop-p g l = record {
  fits : Fits l.rows;
  extent : SameExtent l.initial.rows l.rows;
  located : (k s q : ℕ) → k < l.initial.rows.shard_len_64 → s < 32 → q < l.p
      → word l.rows k s q ≡ located_word l.given l.locator (word l.initial.rows k s) q;
  cleared : (k q : ℕ) → k < l.initial.rows.shard_len_64 → q < l.p → is_marked l.given q ≡ false
      → cell l.rows k q ≡ replicate 64 0;
  left : (k q : ℕ) → k < l.initial.rows.shard_len_64 → l.p ≤ q → cell l.rows k q ≡ cell l.initial.rows k q;
  counts : CountsUpTo l.p 0 0 l.initial.steps l.steps;
}
