use Rattle.std.proofs.Common.{sym, subst}
use Rattle.rs_field.specs.declared.rows.reading.Writing.{Writing}
use Rattle.rs_field.specs.rows.AddedRows.{clear_steps}
use Rattle.rs_field.specs.words.StepBounds.{CountsUpTo}
use Rattle.rs_field.proofs.words_lemmas.Counting.{counts_rows}
use Rattle.rs_field.proofs.rows.adding.count_clearing.Goals as goal

pub returns-in-Replacing : goal.returns-in-Replacing
unfolding clear_steps
returns-in-Replacing c =
    subst (λ (w : Writing). CountsUpTo (clear_steps w) 0 0 c.args.steps.now c.row_step.new.self)
    (sym c.in-Replacing.is) (counts_rows c.row_step.ensures)
