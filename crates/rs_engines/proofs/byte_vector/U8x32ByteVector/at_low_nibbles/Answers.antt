use Rattle.std.proofs.Common.{refl}
use Rattle.rs_engines.proofs.LookUp.{low_places, low_byte}
use Rattle.rs_engines.proofs.byte_vector.U8x32ByteVector.at_low_nibbles.Goals as goal

pub swizzle : goal.swizzle
swizzle c = low_places 32 2 c.args.self refl c.fits-self.0

pub returns : goal.returns
returns c additive i h =
    low_byte 32 2 c.args.self refl c.fits-self.0 c.table_twice.result c.args.t i c.table_twice.ensures h
