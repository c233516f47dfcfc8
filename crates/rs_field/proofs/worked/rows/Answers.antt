use Rattle.std.proofs.Common.{rules}
use Rattle.rs_field.specs.code.Frame.{block_rows, encoder_rows, frame_of, low_frame, high_frame}
use Rattle.rs_field.specs.code.Counts.{supports, is_low, next_power, exponent_of}
use Rattle.rs_field.specs.words.Search.{first_below}
use Rattle.rs_field.proofs.worked.rows.Goals as goal

pub returns : goal.returns
unfolding block_rows encoder_rows frame_of low_frame high_frame supports is_low next_power exponent_of first_below
returns c = search rules
