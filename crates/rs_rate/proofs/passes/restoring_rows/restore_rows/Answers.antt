use Rattle.std.proofs.Common.{rules, ℕ, ◌+◌, ◌-◌, List, Bool, ap, ◌∙◌, subst, arith, true≢false}
use Rattle.std.specs.Prelude.{not, slice_index}
use Rattle.rs_field.specs.rows.MarkedRows.{is_marked}
use Rattle.rs_field.specs.words.Field.{product, power}
use Rattle.rs_field.specs.words.Derivative.{IsDerivativeAdded}
use Rattle.rs_field.specs.rows.View.{word}
use Rattle.rs_rate.specs.values.Configured.{rows_to_decode}
use Rattle.rs_rate.proofs.passes_lemmas.RestoringRows.{from_row_zero}
use Rattle.rs_rate.proofs.passes.restoring_rows.restore_rows.Goals as goal
use Rattle.rs_rate.proofs.passes.restoring_rows.restore_rows.Goals.{else-agrees-via-then-agrees+else-tally-gt0}
use Rattle.rs_rate.proofs.passes.restoring_rows.restore_rows.Goals.{else-agrees-via-else-agrees}

pub formal_derivative-requires-clause-power : goal.formal_derivative-requires-clause-power
formal_derivative-requires-clause-power g c =
    (c.args.tally.configuration.frame.exponent, c.interpolate-agrees.ensures.extent.count ∙ c.requires.rows.count)

pub fft_wanted-requires-clause-power : goal.fft_wanted-requires-clause-power
fft_wanted-requires-clause-power g c =
    let missing = c.want_missing.ensures in (
      c.args.tally.configuration.frame.exponent,
      c.restored.ensures.length ∙ missing.length ∙ c.requires.facts.marked,
    )

pub returns-then-tally-gt0-clause-words : goal.returns-then-tally-gt0-clause-words
returns-then-tally-gt0-clause-words g c =
    let own = c.args.tally.configuration in
    let from = own.frame.originals_from in
    let locator = c.args.locator.now in
    let passed = c.interpolate-agrees.new.rows in
    let added = c.formal_derivative.new.data in
    let valued = c.fft_wanted.new.data in
    let shape = c.interpolate-agrees.ensures.extent in
    let added_extent = c.formal_derivative.ensures.extent in
    let valued_extent = c.fft_wanted.ensures.extent in
    let rows = rows_to_decode own in
    let missing = c.want_missing.ensures in
    let wanted_size = c.restored.ensures.length ∙ missing.length ∙ c.requires.facts.marked in
    record {
      coefficients = word passed;
      found = c.interpolate-agrees.ensures.coefficients;
      revealed = λ _ k t hk ht i hi none. (
        word added k t,
        subst (λ (n : ℕ). IsDerivativeAdded n (word passed k t) (word added k t)) (shape.count ∙ c.requires.rows.count)
            (c.formal_derivative.ensures.derivative k t (omega (arith, hk, shape.len_64, c.requires.rows.len)) ht),
        c.reveal_rows.ensures.revealed k t i
            (omega (arith, hk, valued_extent.len_64, added_extent.len_64, shape.len_64, c.requires.rows.len)) ht hi
            (missing.missing i hi ∙ ap not none)
            ∙ ap (λ w. product w (power (65535 - slice_index locator (from + i))))
            (from_row_zero _ rows (from + i) (word valued k t) (word added k t) wanted_size
            (c.fft_wanted.ensures.values k t (from + i)
            (omega (arith, hk, added_extent.len_64, shape.len_64, c.requires.rows.len)) ht
            (ap (λ (xs : List Bool). is_marked xs (from + i)) c.restored.ensures.marks ∙ missing.missing i hi
            ∙ ap not none))),
      );
    }

pub returns-else-agrees-clause-words : goal.returns-else-agrees-clause-words
returns-else-agrees-clause-words g c =
    search (rules, else-agrees-via-then-agrees+else-tally-gt0, true≢false, else-agrees-via-else-agrees)
