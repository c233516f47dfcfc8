-- What direct sums over a base say of the given shards: whether some message agrees with all of them, and what its
-- missing originals are.
use Rattle.std.proofs.Common.{rules, ◌≡◌, ℕ, ◌+◌, ◌/◌, ◌<◌, List, Bool, true, false, sym, ap, ◌∙◌, arith, refl}
use Rattle.std.proofs.Common.{length}
use Rattle.std.specs.Prelude.{slice_index, Some, is_some, ◌↔◌}
use Rattle.rs_field.specs.code.Column.{Shard, shard_at, column}
use Rattle.rs_field.specs.code.Configuration.{Configuration as AsDefined}
use Rattle.rs_field.specs.code.Decoder.{IsAgreeing, IsConsistent}
use Rattle.rs_field.specs.code.DirectLaws.{IsPartOf}
use Rattle.rs_field.specs.code.Frame.{frame_at, row_count, original_row}
use Rattle.rs_field.specs.code.Given.{Shards, count_below}
use Rattle.rs_field.specs.rows.Layout.{row_len}
use Rattle.rs_field.specs.rows.MarkedRows.{is_marked}
use Rattle.rs_field.specs.words.DirectSum.{direct_sum}
use Rattle.rs_field.proofs.words_lemmas.DirectSum.{direct_sum-same}
use Rattle.rs_field.proofs.code_lemmas.BaseShards.{consistent_by_sums, agrees_with_part}
use Rattle.rs_field.proofs.code_lemmas.DirectColumn.{direct_original}
use Rattle.rs_field.proofs.code_lemmas.GivenRows.{words_in, given-below, word-given}
use Rattle.rs_field.specs.rows.Rows.{word_in}
use Rattle.rs_rate.specs.values.Configured.{with_frame}
use Rattle.rs_rate.specs.passes.Decoding.{IsBaseOf, IsLocatorOf, AreEqualToSums}
use Rattle.rs_rate.specs.rows.Marks.{shards_by_row, part, originals_in, recovery_in}
use Rattle.rs_rate.specs.rows.ShardRows.{shard_laid_out}
use Rattle.rs_rate.proofs.values_lemmas.ConfiguredLemmas.{places-known}
use Rattle.rs_rate.proofs.passes_lemmas.DecodedColumns.{FilledRows, IsMissing, shards_in, state_before, words_before}
use Rattle.rs_rate.proofs.passes_lemmas.DecodedColumns.{are_given, row-given, row_words, rows_located}
use Rattle.rs_rate.proofs.rows_lemmas.HowMany.{how_many-same, many_rows}
use Rattle.rs_rate.proofs.rows_lemmas.RowMaps.{marked-at, part-in, part-some, part-marked, some-marked}

module _ (s : AsDefined) (g : FilledRows s.rate (with_frame s)) {base : List Bool} {locator : List ℕ}
    (is_base : IsBaseOf (with_frame s) g.marks base) (is_locator : IsLocatorOf (frame_at s) base locator) where
  -- The shards of the base, by their rows.
  abbrev base_rows : Shards
  base_rows = shards_by_row base g.chunks s.shard_bytes

  -- The direct sum over the base at a row of column j.
  abbrev sum : ℕ → ℕ → ℕ
  sum j = direct_sum (length locator) (is_marked base) (λ x. slice_index locator x) (words_before g j)

  -- A shard of the base is a given shard.
  row_of_base : (p : ℕ) (shard : Shard) → base_rows p ≡ Some shard → shards_in g p ≡ Some shard
  row_of_base p shard is = search rules

  outside_base : (p : ℕ) → is_marked g.marks p ≡ false → is_marked base p ≡ false
  outside_base p none = search rules

  -- The rows with the shards of the base alone.
  abbrev base_filled : FilledRows s.rate (with_frame s)
  base_filled = record {
    supported = g.supported;
    configured = g.configured;
    marks = base;
    chunks = g.chunks;
    originals = count_below s.original_count (originals_in (with_frame s) base_rows);
    recovery = count_below s.recovery_count (recovery_in (with_frame s) base_rows);
    given = record {
      originals_counted = refl;
      recovery_counted = refl;
      placed = λ p not_own not_coded.
          marked-at base (shard_laid_out g.chunks s.shard_bytes) p false
          (outside_base p (sym (some-marked g.marks (shard_laid_out g.chunks s.shard_bytes) p)
          ∙ ap is_some (g.given.placed p not_own not_coded)));
      sized = λ p shard is. g.given.sized p shard (row_of_base p shard is);
    };
  }

  base_count : base_filled.originals + base_filled.recovery ≡ s.original_count
  base_count =
      sym (many_rows (places-known g.configured) base_filled.given)
      ∙ how_many-same (row_count (frame_at s)) (λ p. is_some (base_rows p)) (is_marked base)
      (λ p hp. some-marked base (shard_laid_out g.chunks s.shard_bytes) p)
      ∙ is_base.counted

  part_of : (from n : ℕ) → IsPartOf (part base_rows from n) (part (shards_in g) from n)
  part_of from n = search (rules, part-some, part-in)

  -- The sums over the words in the rows are the sums over the words of the given shards.
  sum_in_rows : (j p : ℕ) → j < s.shard_bytes / 2
      → direct_sum (row_count (frame_at s)) (is_marked base) (λ x. slice_index locator x)
      (words_in (state_before base_filled) j) p
      ≡ sum j p
  sum_in_rows j p hj =
      direct_sum-same (row_count (frame_at s)) (is_marked base) (λ x. slice_index locator x)
      (words_in (state_before base_filled) j) (words_before g j) p (λ x hx is.
      let shard : Shard = shard_laid_out g.chunks s.shard_bytes x in
      let given = row-given s base_filled x ∙ marked-at base (shard_laid_out g.chunks s.shard_bytes) x true is in
      word-given (state_before base_filled) j x shard given ∙ sym (row_words s base_filled j x shard hj given).1)
      ∙ ap (λ n. direct_sum n (is_marked base) (λ x. slice_index locator x) (words_before g j) p)
      (sym is_locator.entries)

  -- Some message agrees with all given shards if and only if each given row outside the base is equal to its sums.
  pub consistent_by_rows : IsConsistent (state_before g)
      ↔ AreEqualToSums (with_frame s) g.marks base locator (word_in g.chunks (row_len s.shard_bytes))
  consistent_by_rows =
      let both = consistent_by_sums (are_given s g) (part_of (frame_at s).originals_from s.original_count)
      (part_of (frame_at s).recovery_from s.recovery_count) (rows_located s base_filled is_locator)
      g.configured.even base_count in (
        λ consistent p j hp mark none hj.
            let shard : Shard = shard_laid_out g.chunks s.shard_bytes p in
            let here = row-given s g p ∙ marked-at g.marks (shard_laid_out g.chunks s.shard_bytes) p true mark in
            (row_words s g j p shard hj here).1
            ∙ sym (both.0 consistent p j shard here none hj) ∙ sum_in_rows j p hj,
        λ equal. both.1 (λ p j shard here none hj.
            let (mark, word) = row_words s g j p shard hj here in
            sum_in_rows j p hj
            ∙ sym (equal p j (given-below (are_given s g) p shard here) mark none hj)
            ∙ word),
      )

  -- The sum at the row of a missing original is the word of the original of a message that agrees.
  pub summed_original : (message : List Shard) (i j : ℕ) → IsAgreeing (state_before g) message → i < s.original_count
      → j < s.shard_bytes / 2 → IsMissing g i
      → sum j (original_row (frame_at s) i) ≡ column j (shard_at message i)
  summed_original message i j a inside hj none =
      let of_base = agrees_with_part (part_of (frame_at s).originals_from s.original_count)
      (part_of (frame_at s).recovery_from s.recovery_count) a in
      sym (sum_in_rows j (original_row (frame_at s) i) hj)
      ∙ direct_original (are_given s base_filled) (rows_located s base_filled is_locator)
      (omega (arith, base_count)) of_base.0 i j hj inside
      (part-marked base (shard_laid_out g.chunks s.shard_bytes) (frame_at s).originals_from s.original_count i inside
      ∙ outside_base (original_row (frame_at s) i) none)
