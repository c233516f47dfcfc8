use Rattle.std.proofs.Common.{rules, ℕ, ◌≡◌, ◌+◌, ◌*◌, ◌<◌, ◌≤◌, refl, arith}
use Rattle.std.specs.Prelude.{◌↔◌}
use Rattle.rs_field.specs.code.Frame.{row_count}
use Rattle.rs_field.specs.words.StepBounds.{transform_steps}
use Rattle.rs_field.proofs.words_lemmas.Halves.{steps_twice}
use Rattle.rs_rate.proofs.passes.direct.are_sums_within_steps.Goals as goal

-- Twice the steps of a transform are the rows times the exponent, so both sides can be doubled.
doubled : (rows e steps sums each : ℕ) → 2 * steps ≡ rows * e
    → 2 * sums * each ≤ 3 * rows * (e + 2) ↔ (sums * each ≤ 3 * steps + 3 * rows)
doubled rows e steps sums each twice = (λ h. omega arith, λ h. omega arith)

pub returns : goal.returns
returns g =
    let few : g.args.configuration.frame.exponent < 64 = omega (arith, g.requires.configured.few) in
    let twice = steps_twice (row_count g.args.configuration.frame) g.args.configuration.frame.exponent few refl in
    let both = doubled (row_count g.args.configuration.frame) g.args.configuration.frame.exponent
    (transform_steps (row_count g.args.configuration.frame)) g.args.sums
    (1 + 3 * g.args.configuration.original_count) twice in
    search (rules, both)
