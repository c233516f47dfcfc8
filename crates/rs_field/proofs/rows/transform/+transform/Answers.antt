-- The layers, and the transforms of the parts that they leave, make the whole transform.
use Rattle.std.proofs.Common.{rules, ◌≡◌, ℕ, ◌+◌, ◌*◌, ◌/◌, ◌<◌, arith, subst, sym, refl}
use Rattle.rs_field.specs.rows.View.{word}
use Rattle.rs_field.specs.rows.MarkedRows.{is_used, HasMarks}
use Rattle.rs_field.specs.rows.Directions.{AreTransformed}
use Rattle.rs_field.proofs.words_lemmas.Counting.{counts_none, counts_rows}
use Rattle.rs_field.proofs.rows_lemmas.Recursion.{fits_kept}
use Rattle.rs_field.proofs.rows_lemmas.Directions.{layers_of_few}
use Rattle.rs_field.proofs.rows_lemmas.Parts.{block_power, part_begins, part_found, part_within, parts_number}
use Rattle.rs_field.proofs.rows_lemmas.Parts.{parts_whole}
use Rattle.rs_field.proofs.rows_lemmas.PartLoops.{parts_begun, parts_next, forward_whole, backward_whole, none_used}
use Rattle.rs_field.proofs.rows_lemmas.PartLoops.{one_used, counts_next, counts_of_layers, counts_of_parts}
use Rattle.rs_field.proofs.rows_lemmas.PartLoops.{counts_of_whole}
use Rattle.rs_field.proofs.rows_lemmas.PartLoops.{zeros_of_part, part_before}
use Rattle.rs_field.proofs.rows.transform.+transform.Goals as goal

pub transform-returns-then-are_none-clause-values : goal.transform-returns-then-are_none-clause-values
transform-returns-then-are_none-clause-values g t c =
    none_used _ _ c.args.block _ (c.are_none.ensures.none c.if-are_none.true) c.requires.zeros

pub transform_many-transform_parts-requires : goal.transform_many-transform_parts-requires
transform_many-transform_parts-requires g t c κs within = search rules

pub transform_many-transform_parts-requires-in-Backward : goal.transform_many-transform_parts-requires-in-Backward
transform_many-transform_parts-requires-in-Backward g t c κs within =
    (omega arith, (within, (c.requires.can, omega arith)))

pub transform-returns-then-block-gt1-clause-values : goal.transform-returns-then-block-gt1-clause-values
transform-returns-then-block-gt1-clause-values g t c k s hk hs =
    let block = c.args.block in
    let extent = c.layers.ensures.rows.extent in let len = extent.len_64 in let count = extent.count in
    let within = c.requires.within in
    layers_of_few _ _ _ _ _ (λ q. word c.layers.new.data k s (block.pos + q)) (omega arith) (omega arith)
    (block_power block)
    (λ i hi. c.row_symbols_are_words.ensures k s (block.pos + i) hk hs (omega (arith, within)))
    (λ i hi. c.row_symbols_are_words-then-block-gt1.ensures k s (block.pos + i) (omega (arith, len)) hs
    (omega (arith, count, within)))
    (c.layers.ensures.parts k s hk hs)

pub transform-returns-then-block-gt1-clause-counts : goal.transform-returns-then-block-gt1-clause-counts
transform-returns-then-block-gt1-clause-counts g t c =
    counts_of_layers c.args.block (omega arith) c.layers.ensures.counts

pub transform-returns-else-block-gt1-clause-values : goal.transform-returns-else-block-gt1-clause-values
transform-returns-else-block-gt1-clause-values g t c k s hk hs = search (rules, one_used)

pub transform_many-returns-in-Forward-clause-values : goal.transform_many-returns-in-Forward-clause-values
transform_many-returns-in-Forward-clause-values g t c k s hk hs =
    let block = c.args.block in
    let len = c.layers.ensures.rows.extent.len_64 in
    let layers = c.layers.ensures.parts k s hk hs in
    rw c.in-Forward.is (forward_whole _ _ _ (λ q. word c.layers.new.data k s (block.pos + q)) _
    (part_found block refl c.requires.large) (rw c.in-Forward.is at layers)
    (λ m hm. let parts = c.transform_parts.ensures.parts k s m (omega (arith, len)) hs hm in
    rw c.in-Forward.is at parts))

pub transform_many-returns-in-Forward-clause-counts : goal.transform_many-returns-in-Forward-clause-counts
transform_many-returns-in-Forward-clause-counts g t c =
    let block = c.args.block in let size = block.size in
    let few = (part_found block refl c.requires.large).steps in
    counts_of_whole size c.transform_parts.new.steps
    (omega (arith, few))
    (counts_rows c.layers.ensures.counts)
    c.transform_parts.ensures.counts

pub transform_many-returns-in-Backward-clause-values : goal.transform_many-returns-in-Backward-clause-values
transform_many-returns-in-Backward-clause-values g t c k s hk hs =
    let block = c.args.block in
    let len = c.transform_parts-in-Backward.ensures.rows.extent.len_64 in
    let layers = c.layers-in-Backward.ensures.parts k s (omega (arith, len)) hs in
    rw c.in-Backward.is (backward_whole _ (is_used c.args.used) _
    (λ q. word c.transform_parts-in-Backward.new.data k s (block.pos + q)) _ (part_found block refl c.requires.large)
    (rw c.in-Backward.is at layers)
    (λ m hm. let parts = c.transform_parts-in-Backward.ensures.parts k s m hk hs hm in rw c.in-Backward.is at parts))

pub transform_many-returns-in-Backward-clause-counts : goal.transform_many-returns-in-Backward-clause-counts
transform_many-returns-in-Backward-clause-counts g t c =
    let block = c.args.block in let size = block.size in
    let few = (part_found block refl c.requires.large).steps in
    let mid = c.transform_parts-in-Backward.new.steps in
    counts_of_whole size c.layers-in-Backward.new.steps (omega (arith, few))
    c.transform_parts-in-Backward.ensures.counts
    (counts_rows c.layers-in-Backward.ensures.counts)

pub transform_parts-nonzero_div-j-end : goal.transform_parts-nonzero_div-j-end
transform_parts-nonzero_div-j-end g t c = let part =
    part_found c.args.block c.part_rows-part.ensures c.requires.large in part.positive

pub transform_parts-loop-j-init : goal.transform_parts-loop-j-init
transform_parts-loop-j-init g t c =
    record {
      done = parts_begun;
      counts = counts_none;
    }

pub transform_parts-transform-requires : goal.transform_parts-transform-requires
transform_parts-transform-requires g t c κs within =
    let block = c.args.block in
    let n = c.part_rows-part.result in
    let part = part_found block c.part_rows-part.ensures c.requires.large in
    let done = c.loop-j.invariant.done in
    let smaller = part.smaller in
    let begins = part_begins c.loop-j.j part c.loop-j-test.true in
    let inside = part_within c.loop-j.j part begins in
    let extent = done.rows.extent in let count = extent.count in
    let rows = c.part.ensures.rows in let size = c.part.ensures.size in
    let marks = subst (HasMarks c.part-in-loop-j.result) (sym size) c.part-in-loop-j.ensures.marks in
    let zeros = zeros_of_part _ c.args.used c.part-in-loop-j.result part begins done
    c.part-in-loop-j.ensures.used c.requires.can.zeros in (
      omega arith,
      (
        within,
        record {
          fits = fits_kept extent c.requires.can.fits;
          marks = marks;
          within = omega arith;
          zeros = rw (rows, size) zeros;
        },
      ),
    )

pub transform_parts-loop-j-preserved : goal.transform_parts-loop-j-preserved
transform_parts-loop-j-preserved g t c =
    let block = c.args.block in
    let n = c.part_rows-part.result in
    let j = c.loop-j.j in
    let part = part_found block c.part_rows-part.ensures c.requires.large in
    let begins = part_begins j part c.loop-j-test.true in
    let rows = c.part.ensures.rows in let size = c.part.ensures.size in let shift = c.part.ensures.shift in
    record {
      done =
          parts_next part begins c.loop-j.invariant.done c.transform.ensures.rows.extent
          (rw (rows, size) at c.transform.ensures.rows.others) c.part-in-loop-j.ensures.used
          (rw (rows, size, shift) at c.transform.ensures.values);
      counts = counts_next j c.loop-j.invariant.counts
          (rw size at c.transform.ensures.counts);
    }

pub transform_parts-returns-clause-rows : goal.transform_parts-returns-clause-rows
transform_parts-returns-clause-rows g t c = c.loop-j.invariant.done.rows

pub transform_parts-returns-clause-parts : goal.transform_parts-returns-clause-parts
transform_parts-returns-clause-parts g t c k s m hk hs hm =
    let block = c.args.block in
    let n = c.part_rows-part.result in
    let is = c.part_rows-part.ensures in
    let part = part_found block is c.requires.large in
    let last : c.loop-j.j ≡ block.size / n = let end = c.loop-j.auto.j-end in let past = c.loop-j-test.false in
    omega arith in
    let all = parts_whole c.loop-j.j part last in
    let within : m * n < block.size = subst (λ (v : ℕ). m * v < block.size) (sym is) hm in
    subst (λ (v : ℕ). AreTransformed c.args.direction (λ i. is_used c.args.used (m * v + i)) v
    (block.skew_delta + m * v)
    (λ q. word c.args.data.now k s (block.pos + (m * v + q))) (λ q. word c.loop-j.data k s (block.pos + (m * v + q))))
    is
    (c.loop-j.invariant.done.values k s m hk hs (part_before block.size n m c.loop-j.j all within))

pub transform_parts-returns-clause-counts : goal.transform_parts-returns-clause-counts
transform_parts-returns-clause-counts g t c =
    let block = c.args.block in
    let n = c.part_rows-part.result in
    let part = part_found block c.part_rows-part.ensures c.requires.large in
    let end = c.loop-j.auto.j-end in
    counts_of_parts part (omega (arith, parts_number part, end)) c.loop-j.invariant.counts
