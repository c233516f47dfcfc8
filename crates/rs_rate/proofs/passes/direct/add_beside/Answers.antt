use Rattle.std.proofs.Common.{◌≡◌, ℕ, ◌/◌, ◌%◌, ◌<◌, [], ◌∷◌, length, bit_xor, sym, ap, ◌∙◌, arith}
use Rattle.std.specs.Prelude.{slice_index}
use Rattle.rs_field.specs.rows.MarkedRows.{is_marked}
use Rattle.rs_field.specs.rows.Written.{held}
use Rattle.rs_rate.specs.passes.BaseSum.{base_sum, word_beside}
use Rattle.rs_field.specs.rows.AddedRows.{clear_steps}
use Rattle.rs_field.proofs.words_lemmas.Counting.{counts_within}
use Rattle.rs_field.proofs.rows_lemmas.RowOffsets.{row_ends}
use Rattle.rs_rate.proofs.passes_lemmas.DirectRows.{apart_from, after_rows}
use Rattle.rs_rate.proofs.passes_lemmas.SumLemmas.{first-sum}
use Rattle.rs_rate.proofs.passes.direct.add_beside.Goals as goal

pub invariant_of-sums : goal.invariant_of-sums
invariant_of-sums g c =
    let only : (d : ℕ) → d < 1 → slice_index (c.args.y ∷ []) d ≡ c.args.y =
    λ d first. ap (slice_index (c.args.y ∷ [])) (let e : d ≡ 0 = omega (arith, first) in e) in
    record {
      size = omega arith;
      even = omega arith;
      there = λ x hx is.
          let n = length c.args.sum.now in
          let ends = row_ends x (length c.args.base.now.locator.now) n hx in
          record {
            apart = apart_from c.args.base.now is c.requires.outside;
            front = λ before. omega (arith, row_ends x c.args.y n before, c.requires.before);
            back = λ after. omega (arith, ends, c.requires.after, after_rows n c.args.y x after);
          };
      outside = λ d first. ap (is_marked c.args.base.now.marks.now) (only d first) ∙ c.requires.outside;
      within = λ d first. omega (arith, only d first, c.requires.within);
    }

pub returns-clause-words : goal.returns-clause-words
unfolding held
returns-clause-words g c j inside =
    let n : ℕ = length c.args.sum.now in
    sym (first-sum c.write_base_sums.new.x n j)
    ∙ c.write_base_sums.ensures.words 0 j (omega arith) inside
    ∙ ap (λ w. bit_xor w (base_sum c.args.base.now (λ p. word_beside c.args.others.0.now c.args.others.1.now c.args.y
    (length c.args.sum.now) (j / 32) (j % 32) p) c.args.y)) (first-sum c.args.sum.now n j)

pub returns-clause-counts : goal.returns-clause-counts
unfolding clear_steps
returns-clause-counts g c = counts_within (omega arith) (c.write_base_sums.ensures.counts (omega arith))
