use Rattle.std.proofs.Common.{ap, ◌∙◌, arith, refl}
use Rattle.rs_field.specs.words.Products.{byte_at}
use Rattle.rs_engines.proofs.LookUp.{low_places, low_byte}
use Rattle.rs_engines.proofs.byte_vector.U8x16ByteVector.at_low_nibbles.Goals as goal

pub swizzle : goal.swizzle
swizzle c = low_places 16 1 c.args.self refl c.fits-self.0

pub returns : goal.returns
returns c additive i h = low_byte 16 1 c.args.self refl c.fits-self.0 c.table.result c.args.t i
    (λ j l. c.table.ensures j l ∙ ap (byte_at c.args.t) (omega arith)) h
