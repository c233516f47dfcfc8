use Rattle.std.proofs.Common.{true, false, sym, ◌∙◌}
use Rattle.rs_field.specs.code.Counts.{default_rate}
use Rattle.rs_rate.proofs.values_lemmas.FrameLemmas.{default-frame, frame-outside}
use Rattle.rs_rate.proofs.values.frames.default_frame.Goals as goal

pub returns-then-not-are_in_field : goal.returns-then-not-are_in_field
returns-then-not-are_in_field c =
    frame-outside default_rate c.args.original_count c.args.recovery_count c.are_in_field.result
    c.are_in_field.ensures.1 c.if-not-are_in_field.true

pub returns-then-default_is_low : goal.returns-then-default_is_low
returns-then-default_is_low c =
    let inside = c.are_in_field.ensures.0 c.if-not-are_in_field.false in
    c.low_frame.ensures
    ∙ sym (default-frame c.args.original_count c.args.recovery_count true inside.0 inside.1 inside.2 inside.3
    (sym c.default_is_low.ensures ∙ c.if-default_is_low.true))

pub returns-else-default_is_low : goal.returns-else-default_is_low
returns-else-default_is_low c =
    let inside = c.are_in_field.ensures.0 c.if-not-are_in_field.false in
    c.high_frame.ensures
    ∙ sym (default-frame c.args.original_count c.args.recovery_count false inside.0 inside.1 inside.2 inside.3
    (sym c.default_is_low.ensures ∙ c.if-default_is_low.false))
