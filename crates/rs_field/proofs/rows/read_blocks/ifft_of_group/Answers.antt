use Rattle.std.proofs.Common.{◌≡◌, ℕ, ◌+◌, ◌-◌, ◌*◌, ◌≤◌, length, refl, ap, arith}
use Rattle.std.proofs.Math.Nat.{mul-le-mul_right}
use Rattle.rs_field.specs.words.Search.{first_below}
use Rattle.rs_field.specs.words.StepBounds.{log2, transform_steps}
use Rattle.rs_field.specs.rows.Written.{steps_before}
use Rattle.rs_field.proofs.rows_lemmas.Written.{part_replaced}
use Rattle.rs_field.proofs.rows.read_blocks.ifft_of_group.Goals as goal

pub ifft_of_rows-requires-clause-power : goal.ifft_of_rows-requires-clause-power
ifft_of_rows-requires-clause-power g c = (2, refl)

pub returns-clause-written : goal.returns-clause-written
returns-clause-written g c k s inside symbols =
    let n : ℕ = g.R.ReadRows.row_len c.args.rows.now in
    let len : length c.row-len.result.now ≡ n = c.row-len.ensures.length in
    let last : (c.args.first + 4) * n ≤ g.R.ReadRows.row_count c.args.rows.now * n =
    mul-le-mul_right n c.requires.inside in
    let row : ℕ = length c.row-len.result.now in
    let begins : c.args.first * row ≡ c.args.first * n = ap (λ v. c.args.first * v) len in
    part_replaced 4 c.args.shift n k s c.args.first (c.args.first * row)
    ((c.args.first + 4) * row - c.args.first * row)
    (λ i. g.R.ReadRows.word c.args.rows.now k s (c.args.first + i)) c.args.x.now _ c.ifft_of_rows.new.x
    begins (omega (arith, len)) (omega (arith, last, c.requires.room, begins, len))
    (omega (arith, c.ifft_of_rows.ensures.length)) inside (c.ifft_of_rows.ensures.written k s inside symbols)

pub returns-clause-counts : goal.returns-clause-counts
unfolding steps_before transform_steps log2 first_below
returns-clause-counts g c = c.ifft_of_rows.ensures.counts
