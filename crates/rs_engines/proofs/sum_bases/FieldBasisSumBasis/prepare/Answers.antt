use Rattle.std.proofs.Common.{sym, ap, ◌∙◌}
use Rattle.rs_field.specs.rows.Written.{held}
use Rattle.rs_engines.proofs.sum_bases.FieldBasisSumBasis.prepare.Goals as goal

pub returns-in-Replacing-clause-held : goal.returns-in-Replacing-clause-held
unfolding held
returns-in-Replacing-clause-held g c k s i inside small from below =
    c.clear_rows.ensures.cleared k s i inside small from below
    ∙ ap (λ w. held w (g.R.ChangeRows.word c.args.rows.now k s i)) (sym c.in-Replacing.is)

pub returns-in-Adding-clause-held : goal.returns-in-Adding-clause-held
unfolding held
returns-in-Adding-clause-held g c k s i inside small from below =
    ap (λ w. held w (g.R.ChangeRows.word c.args.rows.now k s i)) (sym c.in-Adding.is)
