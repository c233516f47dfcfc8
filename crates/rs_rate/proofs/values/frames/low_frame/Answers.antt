use Rattle.std.proofs.Common.{true}
use Rattle.rs_field.specs.code.Counts.{low_rate}
use Rattle.rs_rate.proofs.values_lemmas.FrameLemmas.{frame-none, frame-made, frame-outside}
use Rattle.rs_rate.proofs.values.frames.low_frame.Goals as goal

pub returns-then-not-are_in_field : goal.returns-then-not-are_in_field
returns-then-not-are_in_field c =
    frame-outside low_rate c.args.original_count c.args.recovery_count c.are_in_field.result c.are_in_field.ensures.1
    c.if-not-are_in_field.true

pub returns-then-block_rows-recovery_count-gt-GF_ORDER : goal.returns-then-block_rows-recovery_count-gt-GF_ORDER
returns-then-block_rows-recovery_count-gt-GF_ORDER c =
    let inside = c.are_in_field.ensures.0 c.if-not-are_in_field.false in
    frame-none true c.args.original_count c.args.recovery_count c.power_of_two-block_rows.result inside.0 inside.2
    c.power_of_two-block_rows.ensures.value c.if-block_rows-recovery_count-gt-GF_ORDER.true

pub returns : goal.returns
returns c =
    let inside = c.are_in_field.ensures.0 c.if-not-are_in_field.false in
    frame-made true c.args.original_count c.args.recovery_count c.power_of_two-block_rows.result
    c.with_low_blocks.result inside.0 inside.2 c.power_of_two-block_rows.ensures.value
    c.if-block_rows-recovery_count-gt-GF_ORDER.false c.with_low_blocks.ensures
