use Rattle.std.proofs.Common.{◌≡◌, ℕ, ◌≤◌, refl, sym, subst, ◌∙◌, arith}
use Rattle.rs_field.specs.rows.Written.{written_steps}
use Rattle.rs_field.specs.words.Search.{first_below}
use Rattle.rs_field.specs.words.StepBounds.{log2, transform_steps}
use Rattle.rs_field.proofs.words_lemmas.Counting.{counts_within}
use Rattle.rs_field.proofs.rows.kernel_engine.AnyEngine.ifft_of.Goals as goal

-- The row steps of the transforms of two and of four rows.
few_steps : (transform_steps 2 ≡ 1) × (transform_steps 4 ≡ 4)
unfolding transform_steps log2 first_below
few_steps = (refl, refl)

pub returns-in-2-clause-counts : goal.returns-in-2-clause-counts
returns-in-2-clause-counts g c is =
    let count : 2 ≡ g.R.ReadRows.row_count c.args.rows.now = sym c.in-2.is ∙ c.count.ensures in
    counts_within (subst (λ (n : ℕ). 3 ≤ written_steps c.args.writing n) count (omega (arith, few_steps.0)))
    (c.ifft_of_two.ensures.counts is)

pub returns-in-4-clause-counts : goal.returns-in-4-clause-counts
returns-in-4-clause-counts g c is =
    let count : 4 ≡ g.R.ReadRows.row_count c.args.rows.now = sym c.in-4.is ∙ c.count.ensures in
    counts_within (subst (λ (n : ℕ). 8 ≤ written_steps c.args.writing n) count (omega (arith, few_steps.1)))
    (c.ifft_of_four.ensures.counts is)
