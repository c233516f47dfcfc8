use Rattle.std.proofs.Common.{◌≡◌, ℕ, ◌+◌, ◌*◌, ◌/◌, length, sym, ap, ◌∙◌, arith}
use Rattle.rs_field.specs.rows.Rows.{word_in}
use Rattle.rs_field.specs.words.StepBounds.{transform_steps}
use Rattle.rs_field.proofs.rows_lemmas.Groups.{groups_of, chunks_of_group, shift_of_groups, long_row}
use Rattle.rs_field.proofs.rows_lemmas.Groups.{rows_of_groups}
use Rattle.rs_field.proofs.rows_lemmas.RowOffsets.{row_within}
use Rattle.rs_field.proofs.words_lemmas.Combination.{forward-same}
use Rattle.rs_field.proofs.words_lemmas.Counting.{counts_then, counts_within}
use Rattle.rs_field.proofs.rows.read_blocks.ifft_of_many.Goals as goal

pub transform_backward-requires-clause-room : goal.transform_backward-requires-clause-room
transform_backward-requires-clause-room g c =
    let size : c.count-groups.result ≡ g.R.ReadRows.row_count c.args.rows.now = c.count-groups.ensures in
    let p = groups_of c.count-groups.result c.requires.many.0 (size ∙ c.requires.many.1)
    (let points = c.requires.points in omega (arith, size, points)) in
    let n : ℕ = g.R.ReadRows.row_len c.args.rows.now in
    let x : length c.ifft_of_groups.new.x ≡ c.count-groups.result * n =
    c.ifft_of_groups.ensures.length ∙ c.requires.room ∙ ap (λ v. v * n) (sym size) in
    let len = chunks_of_group p n (length c.ifft_of_groups.new.x) x in
    x ∙ omega (arith, ap (λ v. v * n) p.whole, ap (λ v. c.count-groups.result / 4 * v) len)

pub transform_backward-requires-clause-zeros : goal.transform_backward-requires-clause-zeros
transform_backward-requires-clause-zeros g c i past few =
    let size : c.count-groups.result ≡ g.R.ReadRows.row_count c.args.rows.now = c.count-groups.ensures in
    let p = groups_of c.count-groups.result c.requires.many.0 (size ∙ c.requires.many.1)
    (let points = c.requires.points in omega (arith, size, points)) in
    let n : ℕ = g.R.ReadRows.row_len c.args.rows.now in
    let x : length c.ifft_of_groups.new.x ≡ c.count-groups.result * n =
    c.ifft_of_groups.ensures.length ∙ c.requires.room ∙ ap (λ v. v * n) (sym size) in
    let len : length c.ifft_of_groups.new.x / (c.count-groups.result / 4) ≡ 4 * n =
    chunks_of_group p n (length c.ifft_of_groups.new.x) x in
    c.ifft_of_groups.ensures.zeros i
    (omega (arith, past, ap (λ v. c.used_groups-used.result * v) len)) few

pub transform_backward-requires-clause-power : goal.transform_backward-requires-clause-power
transform_backward-requires-clause-power g c =
    let size = c.count-groups.ensures in
    (groups_of c.count-groups.result c.requires.many.0 (size ∙ c.requires.many.1)
    (let points = c.requires.points in omega (arith, size, points))).power

pub transform_backward-requires-clause-shift : goal.transform_backward-requires-clause-shift
transform_backward-requires-clause-shift g c =
    let size = c.count-groups.ensures in
    shift_of_groups (groups_of c.count-groups.result c.requires.many.0 (size ∙ c.requires.many.1)
    (let points = c.requires.points in omega (arith, size, points))) c.args.skew_delta
    (rw (sym size) at c.requires.shift)

pub returns-clause-written : goal.returns-clause-written
returns-clause-written g c k s inside symbols =
    let size : c.count-groups.result ≡ g.R.ReadRows.row_count c.args.rows.now = c.count-groups.ensures in
    let p = groups_of c.count-groups.result c.requires.many.0 (size ∙ c.requires.many.1)
    (let points = c.requires.points in omega (arith, size, points)) in
    let n : ℕ = g.R.ReadRows.row_len c.args.rows.now in
    let x : length c.ifft_of_groups.new.x ≡ c.count-groups.result * n =
    c.ifft_of_groups.ensures.length ∙ c.requires.room ∙ ap (λ v. v * n) (sym size) in
    let rows : ℕ = length c.ifft_of_groups.new.x / (c.count-groups.result / 4) in
    let len : rows ≡ 4 * n = chunks_of_group p n (length c.ifft_of_groups.new.x) x in
    rw size at (rows_of_groups p c.args.skew_delta n rows k s (g.R.ReadRows.word c.args.rows.now k s)
    c.ifft_of_groups.new.x (word_in c.transform_backward.new.x n k s) len (rw (sym size) at c.requires.shift)
    (let points = c.requires.points in omega (arith, size, points))
    (rw (sym size) at (c.ifft_of_groups.ensures.written k s inside symbols))
    (λ q low r few. c.transform_backward.ensures.values (q * n + k) s
    (let within = row_within q 4 k n low inside in omega (arith, within, len)) symbols r few
    ∙ forward-same _ _ (word_in c.transform_backward.new.x rows (q * n + k) s)
    (λ r. word_in c.transform_backward.new.x n k s (r * 4 + q)) r
    (λ i below. long_row c.transform_backward.new.x n rows k s q i len)))

pub returns-clause-counts : goal.returns-clause-counts
returns-clause-counts g c =
    let size : c.count-groups.result ≡ g.R.ReadRows.row_count c.args.rows.now = c.count-groups.ensures in
    let p = groups_of c.count-groups.result c.requires.many.0 (size ∙ c.requires.many.1)
    (let points = c.requires.points in omega (arith, size, points)) in
    counts_within (omega (arith, p.steps, p.whole, size, ap transform_steps size))
    (counts_then c.ifft_of_groups.ensures.counts c.transform_backward.ensures.counts)
