use Rattle.std.proofs.Common.{rules}
use Rattle.rs_field.specs.words.StepBounds.{log2, transform_steps}
use Rattle.rs_field.specs.words.Search.{first_below}
use Rattle.rs_field.specs.code.Bounds.{encode_steps, decode_steps}
use Rattle.rs_field.specs.code.Frame.{block_rows, encoder_rows, frame_of, low_frame, high_frame}
use Rattle.rs_field.specs.code.Counts.{is_low, next_power, exponent_of}
use Rattle.rs_field.proofs.worked.bounds.Goals as goal

pub returns : goal.returns
unfolding log2 transform_steps encode_steps decode_steps block_rows encoder_rows frame_of low_frame high_frame is_low
    next_power exponent_of
    first_below
returns c = search rules
