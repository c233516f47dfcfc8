use Rattle.std.proofs.Common.{arith}
use Rattle.rs_field.specs.code.Decoder.{DecoderState}
use Rattle.reed_solomon_simd.proofs.ConsistentStrips.{exact-consistent}
use Rattle.reed_solomon_simd.proofs.verifying.check_consistent.Goals as goal

pub returns-then-surplus_count-eq0 : goal.returns-then-surplus_count-eq0
returns-then-surplus_count-eq0 g c =
    let x : DecoderState = g.P.Pieces.received c.args.received.now in
    exact-consistent x c.requires.set_up (omega (arith, c.surplus_count.ensures, c.if-surplus_count-eq0.true))
