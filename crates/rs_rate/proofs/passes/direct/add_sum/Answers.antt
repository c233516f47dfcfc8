use Rattle.std.proofs.Common.{rules, ◌≡◌, length}
use Rattle.rs_field.proofs.rows_lemmas.RowOffsets.{row_ends}
use Rattle.rs_rate.proofs.passes_lemmas.DirectRows.{others-same, sum-added}
use Rattle.rs_rate.proofs.passes.direct.add_sum.Goals as goal

pub returns-clause-others : goal.returns-clause-others
returns-clause-others g c =
    let ends = row_ends c.args.y (length c.args.base.now.locator.now) c.args.len c.requires.within in
    others-same c.split_at_mut-before.result.0.now c.split_at_mut-sum.result.1.now c.args.len c.args.y (search rules)
    _ _ c.split_at_mut-sum.result.0.now c.add_beside.new.sum (search rules) (search rules) (search rules)
    (search rules)

pub returns-clause-sums : goal.returns-clause-sums
returns-clause-sums g c =
    let ends = row_ends c.args.y (length c.args.base.now.locator.now) c.args.len c.requires.within in
    let long : length c.split_at_mut-sum.result.0.now ≡ c.args.len = search rules in
    sum-added c.split_at_mut-before.result.0.now c.split_at_mut-sum.result.1.now c.args.len c.args.y (search rules)
    _ _ c.split_at_mut-sum.result.0.now c.add_beside.new.sum (search rules) (search rules) long
    (search rules) c.args.base.now c.requires.outside (rw long at c.add_beside.ensures.words)
