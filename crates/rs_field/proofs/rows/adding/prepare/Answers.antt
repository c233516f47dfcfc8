use Rattle.std.proofs.Common.{◌≡◌, sym, subst, refl, ap, ◌∙◌}
use Rattle.rs_field.specs.declared.rows.reading.Writing.{Writing}
use Rattle.rs_field.specs.rows.Rows.{chunk, symbol}
use Rattle.rs_field.specs.rows.Written.{held}
use Rattle.rs_field.proofs.rows_lemmas.Symbols.{symbol-zero}
use Rattle.rs_field.proofs.rows.adding.prepare.Goals as goal

pub returns-in-Replacing-clause-held : goal.returns-in-Replacing-clause-held
unfolding held
returns-in-Replacing-clause-held c k s inside small =
    subst (λ (w : Writing). symbol (chunk c.clear.new.x k) s ≡ held w (symbol (chunk c.args.x.now k) s))
    (sym c.in-Replacing.is) (ap (λ d. symbol d s) (c.clear.ensures k inside) ∙ symbol-zero s small)

pub returns-in-Adding-clause-held : goal.returns-in-Adding-clause-held
unfolding held
returns-in-Adding-clause-held c k s inside small =
    subst (λ (w : Writing). symbol (chunk c.args.x.now k) s ≡ held w (symbol (chunk c.args.x.now k) s))
    (sym c.in-Adding.is) refl
