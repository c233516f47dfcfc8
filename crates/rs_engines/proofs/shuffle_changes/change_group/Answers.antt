use Rattle.std.proofs.Common.{sym, subst}
use Rattle.rs_field.specs.rows.Changed.{AreChangedFrom}
use Rattle.rs_engines.proofs.Groups.{group-changed}
use Rattle.rs_engines.proofs.shuffle_changes.change_group.Goals as goal

pub returns-clause-changed : goal.returns-clause-changed
returns-clause-changed g c =
    let found = c.in_ok-group.ensures in
    subst (λ n. AreChangedFrom c.args.change c.args.logs.now c.args.at n (g.R.ChangeRows.word c.args.rows.now)
    (g.R.ChangeRows.word c.add_to_group.new.rows)) (sym found.next.2)
    (group-changed c.args.change c.args.logs.now c.args.at g.G.SmallFactors.size
    (g.G.RowFactors.logs c.in_ok-group.group) _ _ found.next.3 found.logs c.add_to_group.ensures.sums
    c.add_to_group.ensures.others c.add_to_group.ensures.past)
