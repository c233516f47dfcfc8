use Rattle.std.proofs.Common.{rules, ◌≡◌, ℕ, ◌+◌, ◌<◌, arith, ap, ◌∙◌, inl, zero-add}
use Rattle.std.proofs.Math.Nat.{add-mod_right}
use Rattle.std.proofs.lemmas.Nat.{pow_pos}
use Rattle.rs_field.specs.words.StepBounds.{transform_steps}
use Rattle.rs_field.specs.rows.Rows.{symbol}
use Rattle.rs_field.specs.rows.View.{cell, word}
use Rattle.rs_field.proofs.rows_lemmas.RowOffsets.{outside_cell}
use Rattle.rs_field.proofs.rows_lemmas.Recursion.{fits_kept}
use Rattle.rs_field.proofs.words_lemmas.Counting.{counts_rows, counts_then, counts_within}
use Rattle.rs_rate.proofs.values_lemmas.PowerLemmas.{next_block}
use Rattle.rs_rate.proofs.passes_lemmas.EncodeCounting.{counts_both, further-next, further-within}
use Rattle.rs_rate.proofs.passes_lemmas.LowCoding.{further-more}
use Rattle.rs_rate.proofs.passes.low_encoding.code_further.Goals as goal

pub copy_rows-requires-clause-within : goal.copy_rows-requires-clause-within
copy_rows-requires-clause-within g c = search (rules, next_block)

pub fft-requires-clause-within : goal.fft-requires-clause-within
fft-requires-clause-within g c = search (rules, next_block)

pub fft-requires-clause-points : goal.fft-requires-clause-points
fft-requires-clause-points g c = search (rules, next_block)

pub fft-requires-clause-shift : goal.fft-requires-clause-shift
fft-requires-clause-shift g c = add-mod_right c.loop-start.start c.args.block ∙ c.loop-start.invariant.whole

pub loop-start-preserved : goal.loop-start-preserved
loop-start-preserved g c =
    let loop = c.loop-start.invariant in
    let block = c.args.block in
    let some : 0 < c.args.block = (let p = pow_pos c.requires.power.0 in omega (arith, c.requires.power.1)) in
    let step : ℕ = c.args.block + transform_steps c.args.block in
    let next = next_block c.loop-start.start c.args.rows.now.shard_count c.args.block
    (omega (arith, c.requires.enough)) loop.whole c.requires.whole in
    let same : c.loop-start.rows.shard_len_64 ≡ c.args.rows.now.shard_len_64 = loop.extent.len_64 in
    let same_too : c.copy_rows.new.rows.shard_len_64 ≡ c.args.rows.now.shard_len_64 =
    c.copy_rows.ensures.extent.len_64 ∙ same in
    let kept_before : (i k : ℕ) → k < c.args.rows.now.shard_len_64 → i < c.loop-start.start
    → cell c.copy_rows.new.rows k i ≡ cell c.loop-start.rows k i
    = λ i k inside before.
    outside_cell c.copy_rows.ensures.extent c.copy_rows.ensures.others i k (omega arith) (inl before) in
    let kept_after : (i k : ℕ) → k < c.args.rows.now.shard_len_64 → i < c.loop-start.start
    → cell c.fft.new.data k i ≡ cell c.copy_rows.new.rows k i
    = λ i k inside before.
    outside_cell c.fft.ensures.extent c.fft.ensures.others i k (omega arith) (inl before) in
    record {
      first = omega arith;
      whole = add-mod_right c.loop-start.start c.args.block ∙ loop.whole;
      within = omega (arith, next);
      fits = fits_kept c.fft.ensures.extent (fits_kept c.copy_rows.ensures.extent loop.fits);
      extent = record {
        name = c.fft.ensures.extent.name ∙ c.copy_rows.ensures.extent.name ∙ loop.extent.name;
        count = c.fft.ensures.extent.count ∙ c.copy_rows.ensures.extent.count ∙ loop.extent.count;
        len_64 = c.fft.ensures.extent.len_64 ∙ same_too;
        length = c.fft.ensures.extent.length ∙ c.copy_rows.ensures.extent.length ∙ loop.extent.length;
      };
      combination = λ i k inside small.
          kept_after i k inside (omega arith) ∙ kept_before i k inside (omega arith)
          ∙ loop.combination i k inside small;
      values = λ k s i inside symbols low high few.
          further-more c.args.block c.loop-start.start c.args.recovery_count c.min-wanted.result
          (word c.args.rows.now k s) (word c.loop-start.rows k s) (word c.copy_rows.new.rows k s)
          (word c.fft.new.data k s)
          c.min-wanted.ensures loop.first
          (λ q small. ap (λ x. symbol x s) (loop.combination q k inside small))
          (λ j from to below. loop.values k s j inside symbols from to below)
          (λ q small. ap (λ x. symbol x s) (c.copy_rows.ensures.copied q k (omega arith) (omega arith))
          ∙ ap (word c.loop-start.rows k s) (zero-add q))
          (λ j before. ap (λ x. symbol x s) (kept_before j k inside before))
          (λ j wanted. c.fft.ensures.values k s j (omega arith) symbols wanted)
          (λ j before. ap (λ x. symbol x s) (kept_after j k inside before))
          i low high few;
      counts = counts_both (further-next c.loop-start.start block step some loop.first) loop.counts (counts_then
          (counts_rows c.copy_rows.ensures.counts) c.fft.ensures.counts);
    }

pub returns-clause-counts : goal.returns-clause-counts
returns-clause-counts g c = search (rules, pow_pos, counts_within, further-within)
