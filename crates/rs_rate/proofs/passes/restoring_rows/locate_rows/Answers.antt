use Rattle.std.proofs.Common.{◌≡◌, ℕ, ◌+◌, ◌-◌, true, false, sym, ap, ◌∙◌, subst, arith, inl, inr, true≢false}
use Rattle.std.proofs.lemmas.Bool.{cases_lt}
use Rattle.rs_field.specs.words.StepBounds.{CountsRows}
use Rattle.rs_field.specs.rows.Rows.{symbol}
use Rattle.rs_field.specs.rows.View.{cell, word}
use Rattle.rs_field.specs.declared.rows.shards.ShardsRefMut.{ShardsRefMut}
use Rattle.rs_field.specs.declared.words.steps.Steps.{Steps}
use Rattle.rs_field.specs.rows.MarkedRows.{is_marked}
use Rattle.rs_field.proofs.words_lemmas.Counting.{counts_rows, counts_then}
use Rattle.rs_field.proofs.rows_lemmas.Recursion.{fits_kept}
use Rattle.rs_field.proofs.rows_lemmas.RowOffsets.{outside_cell, extent_then}
use Rattle.rs_field.proofs.rows_lemmas.Symbols.{symbol-zero}
use Rattle.rs_rate.specs.passes.Decoding.{located_word}
use Rattle.rs_rate.proofs.passes_lemmas.RestoringRows.{RowLocated, located_word-at, located_word-same}
use Rattle.rs_rate.proofs.passes.restoring_rows.locate_rows.Goals as goal
use Rattle.rs_rate.proofs.passes.restoring_rows.locate_rows.Goals.{then-given-p, else-given-p}

pub loop-p-preserved : goal.loop-p-preserved
loop-p-preserved g c =
    let old = c.args.rows.now in
    let mid = c.loop-p.rows in
    let new = c.if-given-p.rows in
    let marks = c.args.given.now in
    let locator = c.args.locator.now in
    let p = c.loop-p.p in
    let before = c.loop-p.invariant in
    let count = before.extent.count in
    let step : RowLocated c.args.given.now c.args.locator.now c.loop-p.p c.loop-p.rows c.if-given-p.rows c.loop-p.steps
    c.if-given-p.steps =
    elim c.if-given-p.branch [
      | then-given-p w ↦
          let given = w.if-given-p.true in
          subst (λ (r : ShardsRefMut). RowLocated marks locator p mid r c.loop-p.steps c.if-given-p.steps)
          (sym w.rows-is)
          (subst (λ (t : Steps). RowLocated marks locator p mid w.mul_row_at.new.rows c.loop-p.steps t) (sym w.steps-is)
          (record {
            extent = w.mul_row_at.ensures.extent;
            others = w.mul_row_at.ensures.others;
            located_here = λ k s hk hs.
                w.mul_row_at.ensures.products k s hk hs
                ∙ sym (located_word-at marks locator (word mid k s) p true given);
            cleared = λ k hk none. absurd (true≢false (sym given ∙ none));
            counts = w.mul_row_at.ensures.counts;
          }))
      | else-given-p w ↦
          let none = w.if-given-p.false in
          let cleared_len = w.clear_rows.ensures.extent.len_64 in
          subst (λ (r : ShardsRefMut). RowLocated marks locator p mid r c.loop-p.steps c.if-given-p.steps)
          (sym w.rows-is)
          (subst (λ (t : Steps). RowLocated marks locator p mid w.clear_rows.new.rows c.loop-p.steps t) (sym w.steps-is)
          (record {
            extent = w.clear_rows.ensures.extent;
            others = w.clear_rows.ensures.others;
            located_here = λ k s hk hs.
                ap (λ x. symbol x s)
                (w.clear_rows.ensures.zeros p k (omega (arith, hk, cleared_len)) (omega arith) (omega arith))
                ∙ symbol-zero s hs ∙ sym (located_word-at marks locator (word mid k s) p false none);
            cleared = λ k hk _. w.clear_rows.ensures.zeros p k (omega (arith, hk, cleared_len)) (omega arith)
                (omega arith);
            counts = counts_rows (subst (λ (n : ℕ). CountsRows n c.loop-p.steps w.clear_rows.new.steps)
                (let one : c.loop-p.p + 1 - c.loop-p.p ≡ 1 = omega arith in one) w.clear_rows.ensures.counts);
          }))
    ] in
    let len : c.loop-p.rows.shard_len_64 ≡ c.args.rows.now.shard_len_64 = before.extent.len_64 in
    let kept = outside_cell step.extent step.others in
    record {
      fits = fits_kept step.extent before.fits;
      extent = extent_then before.extent step.extent;
      located = λ k s q hk hs hq. elim (cases_lt q p) [
        | inl low ↦ ap (λ x. symbol x s) (kept q k (omega arith) (inl low)) ∙ before.located k s q hk hs low
        | inr high ↦
            let here : c.loop-p.p ≡ q = omega arith in
            subst (λ (i : ℕ). word new k s i ≡ located_word marks locator (word old k s) i) here
            (step.located_here k s (omega arith) hs
            ∙ located_word-same marks locator (word old k s) (word mid k s) p
            (ap (λ x. symbol x s) (before.left k p hk (omega arith))))
      ];
      cleared = λ k q hk hq none. elim (cases_lt q p) [
        | inl low ↦ kept q k (omega arith) (inl low) ∙ before.cleared k q hk low none
        | inr high ↦
            let here : q ≡ c.loop-p.p = omega arith in
            ap (cell new k) here ∙ step.cleared k (omega arith) (sym (ap (λ i. is_marked marks i) here) ∙ none)
      ];
      left = λ k q hk hq. kept q k (omega arith) (inr hq) ∙ before.left k q hk (omega arith);
      counts = counts_then before.counts step.counts;
    }
