use Rattle.std.proofs.Common.{refl}
use Rattle.rs_field.specs.code.Frame.{low_frame}
use Rattle.rs_rate.proofs.values.frames.with_low_blocks.Goals as goal

pub returns : goal.returns
unfolding low_frame
returns c = rw (c.exponent_of.ensures, c.requires.block) refl
