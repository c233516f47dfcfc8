use Rattle.std.proofs.Common.{bit_xor, ap, arith}
use Rattle.rs_field.specs.rows.Rows.{symbol}
use Rattle.rs_field.specs.words.Tables.{times_factor}
use Rattle.rs_engines.specs.Twisted.{twisted}
use Rattle.rs_engines.proofs.Halves.{in_halves}
use Rattle.rs_engines.proofs.twisted_chunks.add_twisted_chunk.Goals as goal

pub returns-then-LANES-lt32 : goal.returns-then-LANES-lt32
returns-then-LANES-lt32 g c =
    let width = g.met.V.ByteVector.width in
    let past = c.add_twisted_lanes.ensures in
    let next = c.add_twisted_lanes-then-LANES-lt32.ensures in
    in_halves (λ s w. bit_xor w (times_factor c.args.factor.log_m (twisted (symbol c.args.y.now s))))
    g.V.ByteVector.LANES _ _ _ (omega arith) past.sums (λ s h out. ap twisted (past.kept s h out)) next.sums
    (λ s h out. ap twisted (next.kept s h out))

pub returns-else-LANES-lt32 : goal.returns-else-LANES-lt32
returns-else-LANES-lt32 g c s h = let width = g.met.V.ByteVector.width in
    c.add_twisted_lanes.ensures.sums s s (omega arith) (omega arith)
