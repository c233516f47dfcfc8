use Rattle.std.proofs.Common.{◌≡◌, refl, sym, subst}
use Rattle.rs_field.specs.declared.rows.reading.Writing.{Writing}
use Rattle.rs_field.specs.rows.Rows.{word_in}
use Rattle.rs_field.specs.rows.Written.{held, steps_before}
use Rattle.rs_field.specs.words.StepBounds.{CountsUpTo}
use Rattle.rs_field.specs.words.Transform.{forward}
use Rattle.rs_field.proofs.words_lemmas.Combination.{forward-zero}
use Rattle.rs_field.proofs.rows.read_transform.prepare_rows.Goals as goal

pub returns-in-Replacing-clause-values : goal.returns-in-Replacing-clause-values
unfolding held
returns-in-Replacing-clause-values g c k s i inside symbols few =
    subst (λ (w : Writing).
    forward c.args.count c.args.skew_delta (λ q. held w (word_in c.args.x.now c.args.len k s q)) i
    ≡ held w (word_in c.args.x.now c.args.len k s i)) (sym c.in-Replacing.is)
    (forward-zero c.args.count c.args.skew_delta _ i (λ q few. refl))

pub returns-in-Adding-clause-values : goal.returns-in-Adding-clause-values
unfolding held
returns-in-Adding-clause-values g c k s i inside symbols few =
    subst (λ (w : Writing).
    forward c.args.count c.args.skew_delta (λ q. held w (word_in c.args.x.now c.args.len k s q)) i
    ≡ held w (word_in c.transform_forward.new.x c.args.len k s i)) (sym c.in-Adding.is)
    (sym (c.transform_forward.ensures.values k s i inside symbols few))

pub returns-in-Adding-clause-counts : goal.returns-in-Adding-clause-counts
unfolding steps_before
returns-in-Adding-clause-counts g c =
    subst (λ (w : Writing). CountsUpTo (steps_before w c.args.count) 0 0 c.args.steps.now c.transform_forward.new.steps)
    (sym c.in-Adding.is) c.transform_forward.ensures.counts
