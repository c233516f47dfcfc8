use Rattle.std.proofs.Common.{refl}
use Rattle.rs_field.specs.code.Frame.{high_frame}
use Rattle.rs_rate.proofs.values.frames.with_high_blocks.Goals as goal

pub returns : goal.returns
unfolding high_frame
returns c = rw (c.exponent_of.ensures, c.requires.block) refl
