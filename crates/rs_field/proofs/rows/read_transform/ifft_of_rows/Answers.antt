use Rattle.std.proofs.Common.{◌≡◌, ℕ, length, refl, arith}
use Rattle.rs_field.proofs.rows_lemmas.Written.{written_before}
use Rattle.rs_field.proofs.words_lemmas.Counting.{counts_then, counts_rows, counts_within}
use Rattle.rs_field.proofs.rows.read_transform.ifft_of_rows.Goals as goal

pub returns-clause-written : goal.returns-clause-written
returns-clause-written g c k s inside symbols =
    let count : c.count-count.result ≡ g.R.ReadRows.row_count c.args.rows.now = c.count-count.ensures in
    let len : length c.row-len.result.now ≡ g.R.ReadRows.row_len c.args.rows.now = c.row-len.ensures.length in
    let kept : c.ifft_of.new.x ≡ c.args.x.now = c.if-ifft_of.ensures.kept refl in
    let n : ℕ = g.R.ReadRows.row_len c.args.rows.now in
    written_before c.args.writing (g.R.ReadRows.row_count c.args.rows.now) c.args.skew_delta n k s
    (g.R.ReadRows.word c.args.rows.now k s) c.args.x.now c.prepare_rows.new.x c.write_rows.new.x _
    (λ i few. rw (count, len, kept) at
    (c.prepare_rows.ensures.values k s i (omega (arith, inside, len)) symbols (omega (arith, few, count))))
    (λ i few. c.write_rows.ensures.words k s i inside symbols few)
    (λ i few. rw (count, len) at
    (c.transform_backward.ensures.values k s (omega (arith, inside, len)) symbols i (omega (arith, few, count))))

pub returns-clause-counts : goal.returns-clause-counts
returns-clause-counts g c =
    let count : c.count-count.result ≡ g.R.ReadRows.row_count c.args.rows.now = c.count-count.ensures in
    counts_within (omega arith) (rw count at (counts_then (c.if-ifft_of.ensures.uncounted refl)
    (counts_then c.prepare_rows.ensures.counts
    (counts_then (counts_rows c.write_rows.ensures.counts) c.transform_backward.ensures.counts))))
