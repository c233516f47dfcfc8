use Rattle.std.proofs.Common.{◌≡◌, ℕ, ◌+◌, ◌*◌, ◌/◌, ◌%◌, ◌≤◌, bit_xor, refl, sym, ap, inl, inr, subst, ◌∙◌, arith}
use Rattle.std.proofs.Common.{zero-add}
use Rattle.std.proofs.lemmas.Bool.{cases_lt}
use Rattle.std.proofs.Math.Nat.{add-mod_right, mod_self, zero-mod}
use Rattle.std.proofs.lemmas.Nat.{div-add-mod'}
use Rattle.rs_field.specs.rows.Rows.{word_in}
use Rattle.rs_field.specs.rows.Written.{held}
use Rattle.rs_field.specs.words.StepBounds.{transform_steps}
use Rattle.rs_field.proofs.words_lemmas.Counting.{counts_within}
use Rattle.rs_field.specs.words.Transform.{forward}
use Rattle.rs_rate.specs.passes.Coding.{SumsBlocks, zero_padded}
use Rattle.rs_rate.specs.passes.Reading.{message_word}
use Rattle.rs_rate.proofs.passes_lemmas.EncodeCounting.{counts_both, further-next, further-within}
use Rattle.rs_rate.proofs.passes_lemmas.HighCoding.{sums-none, sums-added}
use Rattle.rs_rate.proofs.values_lemmas.PowerLemmas.{next_block}
use Rattle.rs_rate.proofs.passes.read_encoding.MessageRows.sum_blocks.Goals as goal

pub loop-start-init : goal.loop-start-init
unfolding held
loop-start-init g c =
    let own = c.args.self.now in
    record {
      first = omega arith;
      last = omega (arith, own.originals);
      aligned = mod_self own.block;
      points = omega (arith, own.points 0 (zero-mod own.block) own.originals);
      spare = refl;
      length = refl;
      sums = λ k s inside symbols.
          let words = message_word (g.M.StripMessage.shards own.message.now) k s in
          let sums = word_in c.write_first.new.sums own.len k s in
          subst (λ (n : ℕ).
          SumsBlocks c.args.self.now.block (n / c.args.self.now.block) c.args.self.now.count words sums)
          (zero-add own.block)
          (sums-added own.block 0 own.count words (λ q. 0) sums (omega (arith, own.some)) (zero-mod own.block)
          (λ i low. ap (zero_padded own.count words) (zero-add i)
          ∙ c.write_first.ensures.written k s inside symbols i low
          ∙ ap (λ v. forward own.block v (λ q. bit_xor 0 (sums q)) i) (sym (zero-add own.block)))
          (sums-none own.block own.count _ _ (λ q few. refl)));
      counts = counts_within (omega arith) c.write_first.ensures.counts;
    }

pub add_block-requires-clause-aligned : goal.add_block-requires-clause-aligned
add_block-requires-clause-aligned g c = c.loop-start.invariant.aligned

pub loop-start-smaller : goal.loop-start-smaller
loop-start-smaller g c = let some = c.args.self.now.some in omega (arith, some, c.loop-start-test.true)

pub loop-start-preserved : goal.loop-start-preserved
unfolding held
loop-start-preserved g c =
    let own = c.args.self.now in
    let loop = c.loop-start.invariant in
    let wrote = c.add_block.ensures in
    let next = further-next c.loop-start.start own.block (2 * own.block + transform_steps own.block)
    (omega (arith, own.some)) loop.first in
    record {
      first = omega (arith, loop.first);
      last = omega (arith, c.loop-start-test.true);
      aligned = add-mod_right c.loop-start.start own.block ∙ loop.aligned;
      points = omega (arith, own.points c.loop-start.start loop.aligned c.loop-start-test.true);
      spare = wrote.spare ∙ loop.spare;
      length = wrote.length ∙ loop.length;
      sums = λ k s inside symbols. sums-added own.block c.loop-start.start own.count
          (message_word (g.M.StripMessage.shards own.message.now) k s) (word_in c.loop-start.sums own.len k s)
          (word_in c.add_block.new.sums own.len k s) (omega (arith, own.some)) loop.aligned
          (wrote.written k s inside symbols) (loop.sums k s inside symbols);
      counts = counts_both {n = 2 * own.block + transform_steps own.block} (omega (arith, next)) loop.counts
          wrote.counts;
    }

pub returns-clause-sums : goal.returns-clause-sums
returns-clause-sums g c =
    let own = c.args.self.now in
    let loop = c.loop-start.invariant in
    let parts : c.loop-start.start / c.args.self.now.block * c.args.self.now.block
    + c.loop-start.start % c.args.self.now.block ≡ c.loop-start.start =
    div-add-mod' c.loop-start.start c.args.self.now.block in (
      c.loop-start.start / own.block,
      omega (arith, parts, loop.aligned, c.loop-start-test.false),
      omega (arith, parts, loop.aligned, loop.points),
      loop.sums,
    )

pub returns-clause-counts : goal.returns-clause-counts
returns-clause-counts g c rows enough whole =
    let own = c.args.self.now in
    let loop = c.loop-start.invariant in
    let within : c.loop-start.start ≤ rows = elim (cases_lt rows c.loop-start.start) [
      | inl less ↦
          let next = next_block rows c.loop-start.start own.block less whole loop.aligned in
          absurd (omega (arith, next, enough, loop.last))
      | inr most ↦ most
    ] in
    let blocks = further-within c.loop-start.start rows own.block (2 * own.block + transform_steps own.block)
    (omega (arith, own.some)) (omega (arith, within)) in
    counts_within (omega (arith, blocks)) loop.counts
