use Rattle.std.proofs.Common.{ap, ◌∙◌, arith, refl}
use Rattle.rs_field.specs.words.Products.{byte_at}
use Rattle.rs_engines.proofs.LookUp.{high_places, high_byte}
use Rattle.rs_engines.proofs.byte_vector.U8x16ByteVector.at_high_nibbles.Goals as goal

pub swizzle : goal.swizzle
swizzle c = high_places 16 1 c.args.self refl c.fits-self.0 c.fits-self.1

pub returns-clause-lanes : goal.returns-clause-lanes
returns-clause-lanes c additive i h =
    high_byte 16 1 c.args.self refl c.fits-self.0 c.table.result c.args.t i c.fits-self.1
    (λ j l. c.table.ensures j l ∙ ap (byte_at c.args.t) (omega arith)) h
