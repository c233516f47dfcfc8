-- If exactly the rows of given shards are marked, the marks show which rows are erased, and their locator is that of
-- the given shards.
use Rattle.std.proofs.Common.{rules, ◌≡◌, ℕ, ◌<◌, Bool, List}
use Rattle.std.specs.Prelude.{slice_index}
use Rattle.rs_field.specs.code.Decoder.{DecoderState}
use Rattle.rs_field.specs.code.DirectLaws.{mark_at}
use Rattle.rs_field.specs.code.Frame.{row_count, frame_at}
use Rattle.rs_field.specs.code.Given.{Shards}
use Rattle.rs_field.specs.declared.code.frame.Frame.{Frame}
use Rattle.rs_field.specs.rows.MarkedRows.{is_marked}
use Rattle.rs_field.specs.words.Locator.{IsLocatorBelow}
use Rattle.rs_field.proofs.code_lemmas.DirectColumn.{IsLocated}
use Rattle.rs_field.proofs.words_lemmas.LocatorLemmas.{log_sum-same}
use Rattle.rs_rate.specs.passes.Decoding.{IsLocatorOf}
use Rattle.rs_rate.specs.passes.Sums.{AreMarksOf}
use Rattle.rs_rate.specs.rows.Marks.{erasure}

module _ (frame : Frame) (k r : ℕ) (originals recovery : Shards) (marks : List Bool)
    (same : AreMarksOf frame k r originals recovery marks) where
  erasure-mark : (y : ℕ) → y < row_count frame → erasure frame marks y ≡ mark_at frame k r originals recovery y
  unfolding mark_at
  erasure-mark y hy = search rules

  pub locator-given : (locator : List ℕ) → IsLocatorOf frame marks locator
      → IsLocatorBelow (row_count frame) (mark_at frame k r originals recovery) (λ x. slice_index locator x)
  locator-given locator is x hx = search (rules, log_sum-same, erasure-mark)

-- The marked rows and their locator are those of the given shards of a decoder.
pub is_located : (s : DecoderState) (marks : List Bool)
    → AreMarksOf (frame_at s.configuration) s.configuration.original_count s.configuration.recovery_count s.originals
    s.recovery marks
    → {locator : List ℕ} → IsLocatorOf (frame_at s.configuration) marks locator
    → IsLocated s (is_marked marks) (λ x. slice_index locator x)
is_located s marks same {locator} is = search (rules, locator-given)
