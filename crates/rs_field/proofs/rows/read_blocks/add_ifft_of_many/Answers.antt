use Rattle.std.proofs.Common.{◌≡◌, ℕ, ◌+◌, ◌*◌, ◌/◌, length, bit_xor, sym, ap, ◌∙◌, arith}
use Rattle.rs_field.specs.declared.rows.reading.Writing.{Writing}
use Rattle.rs_field.specs.rows.Rows.{word_in}
use Rattle.rs_field.specs.rows.Written.{held, steps_before}
use Rattle.rs_field.specs.words.StepBounds.{transform_steps}
use Rattle.rs_field.proofs.rows_lemmas.Groups.{groups_of, chunks_of_group, chunks_of_groups, rows_of_groups}
use Rattle.rs_field.proofs.rows_lemmas.Groups.{long_row, long_rows_added}
use Rattle.rs_field.proofs.rows_lemmas.RowOffsets.{row_within}
use Rattle.rs_field.proofs.words_lemmas.Combination.{forward-same}
use Rattle.rs_field.proofs.words_lemmas.Counting.{counts_rows, counts_then, counts_within}
use Rattle.rs_field.proofs.rows.read_blocks.add_ifft_of_many.Goals as goal

pub invariant_of-made : goal.invariant_of-made
invariant_of-made g c =
    let size = c.count-count.ensures in
    let p = groups_of c.count-count.result c.requires.many.0 (size ∙ c.requires.many.1)
    (let points = c.requires.points in omega (arith, size, points)) in
    let n : ℕ = g.R.ReadRows.row_len c.args.rows.now in
    let x : length c.args.x.now ≡ c.count-count.result * n = c.requires.room ∙ ap (λ v. v * n) (sym size) in
    record {
      room = c.ifft_of_many.ensures.length ∙ c.requires.spare ∙ sym c.requires.room
          ∙ chunks_of_groups p n (length c.args.x.now) x;
    }

pub ifft_of_rows-requires-clause-power : goal.ifft_of_rows-requires-clause-power
ifft_of_rows-requires-clause-power g c =
    let size = c.count-count.ensures in
    (groups_of c.count-count.result c.requires.many.0 (size ∙ c.requires.many.1)
    (let points = c.requires.points in omega (arith, size, points))).power

pub returns-then-count-gt4-clause-written : goal.returns-then-count-gt4-clause-written
unfolding held
returns-then-count-gt4-clause-written g c k s inside symbols i few =
    let size = c.count-count.ensures in
    let p = groups_of c.count-count.result c.requires.many.0 (size ∙ c.requires.many.1)
    (let points = c.requires.points in omega (arith, size, points)) in
    let n : ℕ = g.R.ReadRows.row_len c.args.rows.now in
    let x : length c.args.x.now ≡ c.count-count.result * n = c.requires.room ∙ ap (λ v. v * n) (sym size) in
    let rows : ℕ = length c.args.x.now / (c.count-count.result / 4) in
    let len : rows ≡ 4 * n = chunks_of_group p n (length c.args.x.now) x in
    c.ifft_of_many.ensures.written k s inside symbols i few
    ∙ forward-same _ c.args.skew_delta (word_in c.ifft_of_many.new.x n k s)
    (λ q. bit_xor (word_in c.args.x.now n k s q) (word_in c.write_rows.new.x n k s q)) i
    (λ q below. long_rows_added p n rows k s c.args.x.now c.ifft_of_many.new.x c.write_rows.new.x len inside
    (λ j r low row. c.write_rows.ensures.words j s r low symbols row) q (omega (arith, below, size)))

pub returns-then-count-gt4-clause-counts : goal.returns-then-count-gt4-clause-counts
returns-then-count-gt4-clause-counts g c =
    let size = c.count-count.ensures in
    let p = groups_of c.count-count.result c.requires.many.0 (size ∙ c.requires.many.1)
    (let points = c.requires.points in omega (arith, size, points)) in
    counts_within (omega (arith, p.steps, p.whole, size, ap transform_steps size))
    (counts_then c.ifft_of_many.ensures.counts (counts_rows c.write_rows.ensures.counts))

pub returns-else-count-gt4-clause-written : goal.returns-else-count-gt4-clause-written
returns-else-count-gt4-clause-written g c k s inside symbols =
    let size = c.count-count.ensures in
    let p = groups_of c.count-count.result c.requires.many.0 (size ∙ c.requires.many.1)
    (let points = c.requires.points in omega (arith, size, points)) in
    let n : ℕ = g.R.ReadRows.row_len c.args.rows.now in
    let x : length c.args.x.now ≡ c.count-count.result * n = c.requires.room ∙ ap (λ v. v * n) (sym size) in
    let rows : ℕ = length c.args.x.now / (c.count-count.result / 4) in
    let len : rows ≡ 4 * n = chunks_of_group p n (length c.args.x.now) x in
    let added : ℕ → ℕ → ℕ → ℕ = λ m j r. bit_xor (held Writing.Adding (word_in c.args.x.now m j s r))
    (word_in c.ifft_of_rows.new.x m j s r) in
    rw size at (rows_of_groups p c.args.skew_delta n rows k s (g.R.ReadRows.word c.args.rows.now k s)
    c.ifft_of_groups.new.x (added n k) len (rw (sym size) at c.requires.shift)
    (let points = c.requires.points in omega (arith, size, points))
    (rw (sym size) at (c.ifft_of_groups.ensures.written k s inside symbols))
    (λ q low r few. c.ifft_of_rows.ensures.written (q * n + k) s
    (let within = row_within q 4 k n low inside in omega (arith, within, len)) symbols r few
    ∙ forward-same _ _ (added rows (q * n + k)) (λ r. added n k (r * 4 + q)) r
    (λ i below. cc (long_row c.args.x.now n rows k s q i len, long_row c.ifft_of_rows.new.x n rows k s q i len))))

pub returns-else-count-gt4-clause-counts : goal.returns-else-count-gt4-clause-counts
unfolding steps_before
returns-else-count-gt4-clause-counts g c =
    let size = c.count-count.ensures in
    let p = groups_of c.count-count.result c.requires.many.0 (size ∙ c.requires.many.1)
    (let points = c.requires.points in omega (arith, size, points)) in
    counts_within (omega (arith, p.steps, p.whole, size, ap transform_steps size))
    (counts_then c.ifft_of_groups.ensures.counts c.ifft_of_rows.ensures.counts)
