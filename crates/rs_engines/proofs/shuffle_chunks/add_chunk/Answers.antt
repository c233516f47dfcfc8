use Rattle.std.proofs.Common.{bit_xor, arith}
use Rattle.rs_field.specs.rows.Rows.{symbol}
use Rattle.rs_field.specs.words.Tables.{times_factor}
use Rattle.rs_engines.proofs.Halves.{in_halves}
use Rattle.rs_engines.proofs.shuffle_chunks.add_chunk.Goals as goal

pub returns-then-LANES-lt32 : goal.returns-then-LANES-lt32
returns-then-LANES-lt32 g c =
    let width = g.met.V.ByteVector.width in
    let past = c.add_lanes.ensures in
    let next = c.add_lanes-then-LANES-lt32.ensures in
    in_halves (λ s w. bit_xor w (times_factor (g.F.Factor.log c.args.factor) (symbol c.args.y.now s)))
    g.V.ByteVector.LANES _ _ _ (omega arith) past.sums past.kept next.sums next.kept

pub returns-else-LANES-lt32 : goal.returns-else-LANES-lt32
returns-else-LANES-lt32 g c s h = let width = g.met.V.ByteVector.width in
    c.add_lanes.ensures.sums s s (omega arith) (omega arith)
