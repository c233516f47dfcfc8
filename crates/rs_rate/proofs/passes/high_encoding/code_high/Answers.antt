use Rattle.std.proofs.Common.{◌≡◌, ℕ, ◌+◌, ◌*◌, ◌≤◌, false, sym, ap, ◌∙◌, subst, arith, zero-add}
use Rattle.std.proofs.Math.Nat.{zero-mod}
use Rattle.rs_field.specs.rows.View.{word}
use Rattle.rs_field.specs.words.Transform.{forward}
use Rattle.rs_field.proofs.words_lemmas.Combination.{forward-same}
use Rattle.rs_field.proofs.rows_lemmas.Recursion.{fits_kept}
use Rattle.rs_field.proofs.code_lemmas.SupportedCounts.{high_fits}
use Rattle.rs_rate.specs.passes.Coding.{SumsBlocks}
use Rattle.rs_rate.proofs.values_lemmas.HighCounts.{rows-fit}
use Rattle.rs_rate.proofs.passes_lemmas.HighCoding.{high_coded}
use Rattle.rs_rate.proofs.passes_lemmas.EncodeCounting.{counts_both, high_total}
use Rattle.rs_rate.proofs.passes.high_encoding.code_high.Goals as goal

pub sum_blocks-requires : goal.sum_blocks-requires
sum_blocks-requires g c =
    let rows = rows-fit false c.args.original_count c.args.recovery_count
    c.requires.supported in
    record {
      fits = c.requires.fits;
      power = (rows.power.0, c.requires.block ∙ rows.power.1);
      some = (high_fits c.args.original_count c.args.recovery_count c.requires.supported).0;
      enough = omega (arith, rows.enough, c.requires.rows);
      whole = rw (c.requires.rows, c.requires.block) rows.whole;
      points = omega (arith, rows.points, c.requires.rows, c.requires.block);
    }

pub fft-requires : goal.fft-requires
fft-requires g c =
    let rows = rows-fit false c.args.original_count c.args.recovery_count
    c.requires.supported in
    record {
      fits = fits_kept c.sum_blocks.ensures.extent c.requires.fits;
      power = (rows.power.0, c.requires.block ∙ rows.power.1);
      truncated = omega (arith, rows.block, c.requires.block);
      within = omega (arith, rows.some, c.requires.rows, c.requires.block, c.sum_blocks.ensures.extent.count);
      shift = zero-mod c.args.block;
      points = omega (arith, rows.points, c.requires.block);
    }

pub returns-clause-words : goal.returns-clause-words
returns-clause-words g c = λ k s inside symbols.
    let block = c.requires.block in
    let len : c.sum_blocks.new.rows.shard_len_64 ≡ c.args.rows.now.shard_len_64 = c.sum_blocks.ensures.extent.len_64 in
    let old : ℕ → ℕ = word c.args.rows.now k s in
    let mid : ℕ → ℕ = word c.sum_blocks.new.rows k s in
    let new : ℕ → ℕ = word c.fft.new.data k s in
    let sums = c.sum_blocks.ensures.sums in
    high_coded c.args.original_count c.args.recovery_count sums.0 old mid new
    c.requires.supported
    (subst (λ (m : ℕ). c.args.original_count ≤ sums.0 * m) block sums.1)
    (subst (λ (m : ℕ). sums.0 * m + m ≤ 65536) block sums.2)
    (subst (λ (m : ℕ). SumsBlocks m sums.0 c.args.original_count old mid) block
    (sums.3 k s inside symbols))
    (λ i few.
    ap new (sym (zero-add i)) ∙ c.fft.ensures.values k s i (omega arith) symbols few
    ∙ forward-same c.args.block 0 (λ q. mid (0 + q)) mid i (λ q hq. ap mid (zero-add q))
    ∙ ap (λ m. forward m 0 mid i) block)

pub returns-clause-counts : goal.returns-clause-counts
returns-clause-counts g c =
    let all = high_total c.args.original_count c.args.recovery_count
    c.args.block c.args.rows.now.shard_count c.requires.supported c.requires.block
    c.requires.rows in
    counts_both (omega (arith, all)) c.sum_blocks.ensures.counts c.fft.ensures.counts
