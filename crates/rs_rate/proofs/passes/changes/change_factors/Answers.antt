use Rattle.std.proofs.Common.{rules, ◌≡◌, ℕ, ◌<◌, Bool, List, subst, pow_mono}
use Rattle.std.specs.Prelude.{IfOk, slice_index}
use Rattle.rs_field.specs.code.Frame.{recovery_row}
use Rattle.rs_field.specs.words.DirectSum.{direct_factor}
use Rattle.rs_rate.specs.passes.Decoding.{IsLocatorOf}
use Rattle.rs_rate.proofs.passes_lemmas.ChangeLemmas.{distinct_rows_of, made_factors}
use Rattle.rs_field.proofs.code_lemmas.GivenRows.{rows_apart}
use Rattle.rs_rate.proofs.passes.changes.change_factors.Goals as goal

pub original_row-requires : goal.original_row-requires
original_row-requires g c = search (rules, distinct_rows_of, pow_mono)

pub recovery_factors-requires-clause-from : goal.recovery_factors-requires-clause-from
recovery_factors-requires-clause-from g c = search (rules, distinct_rows_of)

pub recovery_factors-requires-clause-apart : goal.recovery_factors-requires-clause-apart
recovery_factors-requires-clause-apart g c i inside same = search (rules, distinct_rows_of, rows_apart)

pub locate_base-requires : goal.locate_base-requires
locate_base-requires g c = (distinct_rows_of c.args.counts.framed c.args.counts.supported).few

pub returns-clause-made : goal.returns-clause-made
returns-clause-made g c =
    let counts = c.args.counts in
    let marks : c.deref.result.now ≡ c.in_ok-marks.marks.items = search rules in
    made_factors (λ v. v.items) c.recovery_factors.result counts.frame counts.original_count counts.recovery_count
    c.args.index c.in_ok-marks.marks.items c.in_ok-base.base.locator.items counts.framed counts.supported c.requires
    c.in_ok-marks.ensures.own c.in_ok-marks.ensures.others
    (subst (λ (m : List Bool). IsLocatorOf c.args.counts.frame m c.in_ok-base.base.locator.items) marks
    c.in_ok-base.ensures.located) c.recovery_factors.ensures.count
    (subst (λ (x : ℕ). IfOk c.recovery_factors.result (λ f. (i : ℕ) → i < c.args.counts.recovery_count
    → slice_index f.items i
    ≡ direct_factor (λ z. slice_index c.in_ok-base.base.locator.items z) x (recovery_row c.args.counts.frame i)))
    c.original_row.ensures c.recovery_factors.ensures.factors)
