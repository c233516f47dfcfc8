use Rattle.std.proofs.Common.{false}
use Rattle.rs_field.specs.code.Counts.{high_rate}
use Rattle.rs_rate.proofs.values_lemmas.FrameLemmas.{frame-none, frame-made, frame-outside}
use Rattle.rs_rate.proofs.values.frames.high_frame.Goals as goal

pub returns-then-not-are_in_field : goal.returns-then-not-are_in_field
returns-then-not-are_in_field c =
    frame-outside high_rate c.args.original_count c.args.recovery_count c.are_in_field.result c.are_in_field.ensures.1
    c.if-not-are_in_field.true

pub returns-then-block_rows-original_count-gt-GF_ORDER : goal.returns-then-block_rows-original_count-gt-GF_ORDER
returns-then-block_rows-original_count-gt-GF_ORDER c =
    let inside = c.are_in_field.ensures.0 c.if-not-are_in_field.false in
    frame-none false c.args.original_count c.args.recovery_count c.power_of_two-block_rows.result inside.0 inside.2
    c.power_of_two-block_rows.ensures.value c.if-block_rows-original_count-gt-GF_ORDER.true

pub returns : goal.returns
returns c =
    let inside = c.are_in_field.ensures.0 c.if-not-are_in_field.false in
    frame-made false c.args.original_count c.args.recovery_count c.power_of_two-block_rows.result
    c.with_high_blocks.result inside.0 inside.2 c.power_of_two-block_rows.ensures.value
    c.if-block_rows-original_count-gt-GF_ORDER.false c.with_high_blocks.ensures
