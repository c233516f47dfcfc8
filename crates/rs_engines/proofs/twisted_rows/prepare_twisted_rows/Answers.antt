use Rattle.std.proofs.Common.{◌≡◌, sym, subst, ap, ◌∙◌}
use Rattle.rs_field.specs.declared.rows.reading.Writing.{Writing}
use Rattle.rs_field.specs.rows.Written.{held}
use Rattle.rs_engines.specs.Twisted.{twisted}
use Rattle.rs_engines.proofs.TwistedWords.{twisted_zero}
use Rattle.rs_engines.proofs.twisted_rows.prepare_twisted_rows.Goals as goal

pub returns-in-Replacing-clause-held : goal.returns-in-Replacing-clause-held
unfolding held
returns-in-Replacing-clause-held g c k s i inside small from to =
    subst (λ (w : Writing). twisted (g.R.ChangeRows.word c.clear_rows.new.rows k s i)
    ≡ held w (g.R.ChangeRows.word c.args.rows.now k s i)) (sym c.in-Replacing.is)
    (ap twisted (c.clear_rows.ensures.cleared k s i inside small from to) ∙ twisted_zero)

pub returns-in-Adding-clause-held : goal.returns-in-Adding-clause-held
unfolding held
returns-in-Adding-clause-held g c k s i inside small from to =
    subst (λ (w : Writing). twisted (g.R.ChangeRows.word c.twist_rows.new.rows k s i)
    ≡ held w (g.R.ChangeRows.word c.args.rows.now k s i)) (sym c.in-Adding.is)
    (c.twist_rows.ensures.back k s i inside small from to)
