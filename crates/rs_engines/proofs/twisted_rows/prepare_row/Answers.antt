use Rattle.std.proofs.Common.{◌≡◌, sym, subst, refl}
use Rattle.rs_field.specs.declared.rows.reading.Writing.{Writing}
use Rattle.rs_field.specs.rows.Written.{held}
use Rattle.rs_engines.proofs.twisted_rows.prepare_row.Goals as goal

pub returns-in-Replacing-clause-held : goal.returns-in-Replacing-clause-held
unfolding held
returns-in-Replacing-clause-held g c k s inside small =
    subst (λ (w : Writing). g.R.ChangeRows.word c.clear_row.new.rows k s c.args.row
    ≡ held w (g.R.ChangeRows.word c.args.rows.now k s c.args.row)) (sym c.in-Replacing.is)
    (c.clear_row.ensures.cleared k s inside small)

pub returns-in-Adding-clause-held : goal.returns-in-Adding-clause-held
unfolding held
returns-in-Adding-clause-held g c k s inside small =
    subst (λ (w : Writing). g.R.ChangeRows.word c.args.rows.now k s c.args.row
    ≡ held w (g.R.ChangeRows.word c.args.rows.now k s c.args.row)) (sym c.in-Adding.is) refl
