use Rattle.std.proofs.Common.{rules, ◌≡◌, ℕ, ◌≤◌, ◌∙◌, true, sym, ap, arith, inl, inr}
use Rattle.std.proofs.Math.Nat.{zero-mod, mod_self}
use Rattle.rs_field.specs.rows.Rows.{symbol}
use Rattle.rs_field.specs.code.Counts.{next_power}
use Rattle.rs_field.specs.rows.View.{word}
use Rattle.rs_field.proofs.words_lemmas.Counting.{counts_rows, counts_then}
use Rattle.rs_field.proofs.rows_lemmas.Recursion.{fits_kept}
use Rattle.rs_field.proofs.rows_lemmas.RowOffsets.{outside_cell}
use Rattle.rs_field.proofs.rows_lemmas.Symbols.{symbol-zero}
use Rattle.rs_rate.proofs.values_lemmas.HighCounts.{rows-fit}
use Rattle.std.proofs.lemmas.Bool.{cases_lt}
use Rattle.rs_rate.proofs.passes_lemmas.LowCoding.{low_coded}
use Rattle.rs_rate.proofs.passes_lemmas.ZeroPadded.{zero_padded-in, zero_padded-past}
use Rattle.rs_rate.proofs.passes_lemmas.EncodeCounting.{counts_both, low_total}
use Rattle.rs_rate.proofs.passes.low_encoding.code_low.Goals as goal

pub clear_rows-requires : goal.clear_rows-requires
clear_rows-requires g c =
    let rows = rows-fit true c.args.original_count c.args.recovery_count
    c.requires.supported in
    record {
      fits = c.requires.fits;
      ordered = omega (arith, rows.block, c.requires.block);
      within = omega (arith, rows.some, c.requires.rows, c.requires.block);
    }

pub ifft-requires : goal.ifft-requires
ifft-requires g c =
    let rows = rows-fit true c.args.original_count c.args.recovery_count
    c.requires.supported in
    record {
      fits = fits_kept c.clear_rows.ensures.extent c.requires.fits;
      power = (rows.power.0, c.requires.block ∙ rows.power.1);
      truncated = omega (arith, rows.block, c.requires.block);
      within = omega (arith, rows.some, c.requires.rows, c.requires.block, c.clear_rows.ensures.extent.count);
      shift = zero-mod c.args.block;
      points = omega (arith, rows.points, c.requires.block);
      zeros = λ i k inside from to. c.clear_rows.ensures.zeros i k inside (omega arith) (omega arith);
    }

pub code_further-requires : goal.code_further-requires
code_further-requires g c =
    let rows = rows-fit true c.args.original_count c.args.recovery_count
    c.requires.supported in
    let passed = c.args.rows.now in
    let count : c.ifft.new.data.shard_count ≡ passed.shard_count =
    c.ifft.ensures.extent.count ∙ c.clear_rows.ensures.extent.count in
    record {
      fits = fits_kept c.ifft.ensures.extent (fits_kept c.clear_rows.ensures.extent c.requires.fits);
      power = (rows.power.0, c.requires.block ∙ rows.power.1);
      enough = omega (arith, rows.enough, c.requires.rows, count);
      whole = rw (count, c.requires.rows, c.requires.block) rows.whole;
      points = omega (arith, rows.points, c.requires.rows, c.requires.block, count);
    }

pub fft-requires : goal.fft-requires
fft-requires g c =
    let rows = rows-fit true c.args.original_count c.args.recovery_count
    c.requires.supported in
    record {
      fits = fits_kept c.code_further.ensures.extent (fits_kept c.ifft.ensures.extent
          (fits_kept c.clear_rows.ensures.extent c.requires.fits));
      power = (rows.power.0, c.requires.block ∙ rows.power.1);
      truncated = omega arith;
      within = omega (
        arith,
        rows.some,
        c.requires.rows,
        c.requires.block,
        c.clear_rows.ensures.extent.count,
        c.ifft.ensures.extent.count,
        c.code_further.ensures.extent.count,
      );
      shift = mod_self c.args.block;
      points = omega (arith, rows.some, rows.points, c.requires.block);
    }

pub returns-clause-words : goal.returns-clause-words
returns-clause-words g c = λ k s inside symbols.
    let rows = rows-fit true c.args.original_count c.args.recovery_count
    c.requires.supported in
    let block : c.args.block ≡ next_power c.args.original_count = c.requires.block in
    let enough : c.args.recovery_count ≤ c.args.rows.now.shard_count =
    omega (arith, rows.enough, c.requires.rows) in
    let some : c.args.block ≤ c.args.rows.now.shard_count =
    omega (arith, rows.some, c.requires.rows, block) in
    let given : c.args.original_count ≤ c.args.block =
    omega (arith, rows.block, block) in
    let len_1 : c.clear_rows.new.rows.shard_len_64 ≡ c.args.rows.now.shard_len_64 =
    c.clear_rows.ensures.extent.len_64 in
    let len_2 : c.ifft.new.data.shard_len_64 ≡ c.args.rows.now.shard_len_64 = c.ifft.ensures.extent.len_64 ∙ len_1 in
    let len_3 : c.code_further.new.rows.shard_len_64 ≡ c.args.rows.now.shard_len_64 =
    c.code_further.ensures.extent.len_64 ∙ len_2 in
    let old : ℕ → ℕ = word c.args.rows.now k s in
    let new : ℕ → ℕ = word c.fft.new.data k s in
    low_coded c.args.original_count c.args.recovery_count c.args.block old (word c.clear_rows.new.rows k s)
    (word c.ifft.new.data k s) (word c.code_further.new.rows k s) new c.requires.supported block given
    (λ j small. elim (cases_lt j c.args.original_count) [
      | inl low ↦
          ap (λ x. symbol x s)
          (outside_cell c.clear_rows.ensures.extent c.clear_rows.ensures.others j k inside (inl low))
          ∙ sym (zero_padded-in c.args.original_count old j low)
      | inr past ↦
          ap (λ x. symbol x s) (c.clear_rows.ensures.zeros j k (omega arith) past small) ∙ symbol-zero s symbols
          ∙ sym (zero_padded-past c.args.original_count old j past)
    ])
    (λ j small. c.ifft.ensures.values k s j (omega arith) symbols small)
    (λ q small. ap (λ x. symbol x s) (c.code_further.ensures.combination q k (omega arith) small))
    (λ i low few. c.code_further.ensures.values k s i (omega arith) symbols low few)
    (λ i wanted. c.fft.ensures.values k s i (omega arith) symbols (omega arith))
    (λ i low. ap (λ x. symbol x s)
    (outside_cell c.fft.ensures.extent c.fft.ensures.others i k (omega arith) (inr (omega arith))))

pub returns-clause-counts : goal.returns-clause-counts
returns-clause-counts g c = search (rules, low_total, counts_both, counts_then, counts_rows)
