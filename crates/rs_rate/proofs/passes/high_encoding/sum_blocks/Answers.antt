use Rattle.std.proofs.Common.{rules, ◌≡◌, ℕ, ◌+◌, ◌*◌, ◌/◌, ◌%◌, ◌<◌, ap, ◌∙◌, inl, inr, arith}
use Rattle.std.proofs.Math.Nat.{mod_self, add-mod_right}
use Rattle.std.proofs.lemmas.Nat.{pow_pos, div-add-mod'}
use Rattle.rs_field.specs.rows.Rows.{symbol}
use Rattle.rs_field.specs.rows.View.{word}
use Rattle.rs_field.proofs.rows_lemmas.RowOffsets.{outside_cell, extent_then}
use Rattle.rs_field.specs.words.StepBounds.{transform_steps}
use Rattle.rs_field.proofs.rows_lemmas.Recursion.{fits_kept}
use Rattle.rs_field.proofs.words_lemmas.Counting.{counts_rows, counts_within}
use Rattle.rs_rate.proofs.values_lemmas.PowerLemmas.{multiple_least, next_block}
use Rattle.rs_rate.proofs.passes_lemmas.HighCoding.{sums-start, sums-next}
use Rattle.rs_rate.proofs.passes_lemmas.EncodeCounting.{counts_both, further-next, further-within}
use Rattle.rs_rate.proofs.passes.high_encoding.sum_blocks.Goals as goal

pub loop-start-init : goal.loop-start-init
loop-start-init g c =
    let some : 0 < c.args.block = (let p = pow_pos c.requires.power.0 in omega (arith, c.requires.power.1)) in
    record {
      first = omega arith;
      whole = mod_self c.args.block;
      within = multiple_least c.args.rows.now.shard_count c.args.block (omega arith) c.requires.whole;
      fits = fits_kept c.pass_block.ensures.extent c.requires.fits;
      extent = c.pass_block.ensures.extent;
      left = λ i k inside from.
          outside_cell c.pass_block.ensures.extent c.pass_block.ensures.others i k inside (inr (omega arith));
      sums = λ k s inside symbols.
          sums-start c.args.block c.args.original_count (word c.args.rows.now k s) (word c.pass_block.new.rows k s) some
          (λ i few. c.pass_block.ensures.values k s i inside symbols few);
      counts = counts_within (omega arith) c.pass_block.ensures.counts;
    }

pub pass_block-requires-in-loop-start-clause-within :
    goal.pass_block-requires-in-loop-start-clause-within
pass_block-requires-in-loop-start-clause-within g c =
    let loop = c.loop-start.invariant in
    let next = next_block c.loop-start.start c.args.rows.now.shard_count c.args.block
    (omega (arith, c.requires.enough)) loop.whole c.requires.whole in
    omega (arith, next, loop.extent.count)

pub xor_within-requires-clause-y_in : goal.xor_within-requires-clause-y_in
xor_within-requires-clause-y_in g c = search (rules, next_block)

pub loop-start-preserved : goal.loop-start-preserved
loop-start-preserved g c =
    let loop = c.loop-start.invariant in
    let now = c.loop-start.rows in
    let passed = c.pass_block-in-loop-start.new.rows in
    let pass = c.pass_block-in-loop-start.ensures in
    let some : 0 < c.args.block = (let p = pow_pos c.requires.power.0 in omega (arith, c.requires.power.1)) in
    let len : c.loop-start.rows.shard_len_64 ≡ c.args.rows.now.shard_len_64 = loop.extent.len_64 in
    let len_too : c.pass_block-in-loop-start.new.rows.shard_len_64 ≡ c.args.rows.now.shard_len_64 =
    pass.extent.len_64 ∙ len in
    let turn : ℕ = 2 * c.args.block + transform_steps c.args.block in
    let next = further-next c.loop-start.start c.args.block
    (2 * c.args.block + transform_steps c.args.block) some loop.first in
    let step = extent_then pass.extent c.xor_within.ensures.extent in
    record {
      first = omega arith;
      whole = add-mod_right c.loop-start.start c.args.block ∙ loop.whole;
      within = next_block c.loop-start.start c.args.rows.now.shard_count c.args.block
          (omega (arith, c.requires.enough)) loop.whole c.requires.whole;
      fits = fits_kept step loop.fits;
      extent = extent_then loop.extent step;
      left = λ i k inside from.
          outside_cell c.xor_within.ensures.extent c.xor_within.ensures.others i k (omega arith) (inr (omega arith))
          ∙ outside_cell pass.extent pass.others i k (omega arith) (inr from)
          ∙ loop.left i k inside (omega arith);
      sums = λ k s inside symbols.
          sums-next c.args.block c.loop-start.start c.args.original_count (word c.args.rows.now k s) (word now k s)
          (word passed k s) (word c.xor_within.new.data k s) some loop.whole
          (λ i from. ap (λ x. symbol x s) (loop.left i k inside from))
          (λ i few. pass.values k s i (omega arith) symbols few)
          (λ q few. ap (λ x. symbol x s)
          (outside_cell pass.extent pass.others q k (omega arith) (inl (omega arith))))
          (λ q few. c.xor_within.ensures.sums q k s few (omega arith) symbols)
          (loop.sums k s inside symbols);
      counts = counts_both {n = turn} (omega (arith, next)) loop.counts
          (counts_both (omega arith) pass.counts (counts_rows c.xor_within.ensures.counts));
    }

pub returns-clause-sums : goal.returns-clause-sums
returns-clause-sums g c =
    let loop = c.loop-start.invariant in
    let parts : c.loop-start.start / c.args.block * c.args.block + c.loop-start.start % c.args.block
    ≡ c.loop-start.start = div-add-mod' c.loop-start.start c.args.block in
    (c.loop-start.start / c.args.block, omega (arith, loop.whole), omega (arith, loop.whole), loop.sums)

pub returns-clause-counts : goal.returns-clause-counts
returns-clause-counts g c = search (rules, pow_pos, further-within, counts_within)
