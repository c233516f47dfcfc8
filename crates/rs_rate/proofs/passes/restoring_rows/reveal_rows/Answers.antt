use Rattle.std.proofs.Common.{◌≡◌, ℕ, ◌+◌, ◌-◌, refl, sym, ap, ◌∙◌, subst, arith, inl, inr, true≢false}
use Rattle.std.specs.Prelude.{slice_index}
use Rattle.std.proofs.lemmas.Bool.{cases_lt}
use Rattle.rs_field.specs.words.Field.{product, power}
use Rattle.rs_field.specs.rows.Rows.{symbol}
use Rattle.rs_field.specs.rows.View.{word}
use Rattle.rs_field.specs.declared.rows.shards.ShardsRefMut.{ShardsRefMut}
use Rattle.rs_field.specs.declared.words.steps.Steps.{Steps}
use Rattle.rs_field.specs.rows.MarkedRows.{is_marked}
use Rattle.rs_field.proofs.words_lemmas.Counting.{counts_then, counts_none}
use Rattle.rs_field.proofs.rows_lemmas.Recursion.{fits_kept}
use Rattle.rs_field.proofs.rows_lemmas.RowOffsets.{outside_cell, extent_then}
use Rattle.rs_rate.specs.rows.Marks.{restored_marks}
use Rattle.rs_rate.proofs.passes_lemmas.RestoringRows.{RowRevealed}
use Rattle.rs_rate.proofs.passes.restoring_rows.reveal_rows.Goals as goal
use Rattle.rs_rate.proofs.passes.restoring_rows.reveal_rows.Goals.{then-is_restored, else-is_restored}

pub loop-i-preserved : goal.loop-i-preserved
loop-i-preserved g c =
    let old = c.args.rows.now in
    let mid = c.loop-i.rows in
    let new = c.if-is_restored.rows in
    let marks = restored_marks c.args.marks.now in
    let locator = c.args.locator.now in
    let from = c.args.configuration.frame.originals_from in
    let p = c.original_row-row.result in
    let before = c.loop-i.invariant in
    let count = before.extent.count in
    let step : RowRevealed
    (restored_marks c.args.marks.now) c.args.locator.now c.original_row-row.result c.loop-i.rows
    c.if-is_restored.rows c.loop-i.steps c.if-is_restored.steps =
    elim c.if-is_restored.branch [
      | then-is_restored w ↦
          subst (λ (r : ShardsRefMut). RowRevealed marks locator p mid r c.loop-i.steps c.if-is_restored.steps)
          (sym w.rows-is)
          (subst (λ (t : Steps). RowRevealed marks locator p mid w.mul_row_at.new.rows c.loop-i.steps t)
          (sym w.steps-is)
          (record {
            extent = w.mul_row_at.ensures.extent;
            others = w.mul_row_at.ensures.others;
            revealed_here = λ k s hk hs _. w.mul_row_at.ensures.products k s hk hs;
            counts = w.mul_row_at.ensures.counts;
          }))
      | else-is_restored w ↦
          subst (λ (r : ShardsRefMut). RowRevealed marks locator p mid r c.loop-i.steps c.if-is_restored.steps)
          (sym w.rows-is)
          (subst (λ (t : Steps). RowRevealed marks locator p mid mid c.loop-i.steps t) (sym w.steps-is)
          (record {
            extent = record { name = refl; count = refl; len_64 = refl; length = refl };
            others = λ k _. refl;
            revealed_here = λ k s hk hs marked.
                absurd (true≢false (sym marked ∙ sym c.is_restored.ensures ∙ w.if-is_restored.false));
            counts = counts_none;
          }))
    ] in
    let len : c.loop-i.rows.shard_len_64 ≡ c.args.rows.now.shard_len_64 = before.extent.len_64 in
    let kept = outside_cell step.extent step.others in
    record {
      fits = fits_kept step.extent before.fits;
      extent = extent_then before.extent step.extent;
      revealed = λ k s j hk hs hj marked. elim (cases_lt j c.loop-i.i) [
        | inl low ↦ ap (λ x. symbol x s) (kept (from + j) k (omega arith) (inl (omega arith)))
            ∙ before.revealed k s j hk hs low marked
        | inr high ↦
            let here : c.original_row-row.result ≡ c.args.configuration.frame.originals_from + j = omega arith in
            subst (λ (q : ℕ). word new k s q ≡ product (word old k s q) (power (65535 - slice_index locator q))) here
            (step.revealed_here k s (omega arith) hs (ap (is_marked marks) here ∙ marked)
            ∙ ap (λ x. product (symbol x s) (power (65535 - slice_index locator p)))
            (before.left k p hk (omega arith)))
      ];
      left = λ k q hk hq. kept q k (omega arith) (inr (omega arith)) ∙ before.left k q hk (omega arith);
      counts = counts_then before.counts step.counts;
    }
