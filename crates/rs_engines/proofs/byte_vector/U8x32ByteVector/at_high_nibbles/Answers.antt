use Rattle.std.proofs.Common.{refl}
use Rattle.rs_engines.proofs.LookUp.{high_places, high_byte}
use Rattle.rs_engines.proofs.byte_vector.U8x32ByteVector.at_high_nibbles.Goals as goal

pub swizzle : goal.swizzle
swizzle c = high_places 32 2 c.args.self refl c.fits-self.0 c.fits-self.1

pub returns-clause-lanes : goal.returns-clause-lanes
returns-clause-lanes c additive i h =
    high_byte 32 2 c.args.self refl c.fits-self.0 c.table_twice.result c.args.t i c.fits-self.1 c.table_twice.ensures h
