use Rattle.std.proofs.Common.{arith}
use Rattle.rs_field.specs.words.Field.{product}
use Rattle.rs_engines.proofs.Halves.{in_halves}
use Rattle.rs_engines.proofs.shuffle_chunks.mul_chunk.Goals as goal

pub returns-then-LANES-lt32 : goal.returns-then-LANES-lt32
returns-then-LANES-lt32 g c f s is =
    let width = g.met.V.ByteVector.width in
    let past = c.mul_lanes.ensures in
    let next = c.mul_lanes-then-LANES-lt32.ensures in
    in_halves (λ _ w. product w f) g.V.ByteVector.LANES _ _ _ (omega arith)
    (λ i j. past.products f i j is) past.kept (λ i j. next.products f i j is) next.kept s

pub returns-else-LANES-lt32 : goal.returns-else-LANES-lt32
returns-else-LANES-lt32 g c f s is h = let width = g.met.V.ByteVector.width in
    c.mul_lanes.ensures.products f s s is (omega arith) (omega arith)
