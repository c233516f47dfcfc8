use Rattle.std.proofs.Common.{◌+◌, ap, ◌∙◌, arith}
use Rattle.rs_engines.specs.Twisted.{twisted}
use Rattle.rs_engines.proofs.Halves.{in_halves}
use Rattle.rs_engines.proofs.TwistedWords.{twisted_twice}
use Rattle.rs_engines.proofs.twisted_chunks.twist_chunk.Goals as goal

pub returns-then-LANES-lt32-clause-twisted : goal.returns-then-LANES-lt32-clause-twisted
returns-then-LANES-lt32-clause-twisted g c =
    let width = g.met.V.ByteVector.width in
    let past = c.twist_lanes.ensures in
    let next = c.twist_lanes-then-LANES-lt32.ensures in
    in_halves (λ s w. twisted w) g.V.ByteVector.LANES _ _ _ (omega arith) past.twisted past.kept next.twisted next.kept

pub returns-else-LANES-lt32-clause-twisted : goal.returns-else-LANES-lt32-clause-twisted
returns-else-LANES-lt32-clause-twisted g c s h = let width = g.met.V.ByteVector.width in
    c.twist_lanes.ensures.twisted s s (omega arith) (omega arith)

pub returns-then-LANES-lt32-clause-back : goal.returns-then-LANES-lt32-clause-back
returns-then-LANES-lt32-clause-back g c s h =
    let width = g.met.V.ByteVector.width in
    let past = c.twist_lanes.ensures in
    let next = c.twist_lanes-then-LANES-lt32.ensures in
    ap twisted
    (in_halves (λ s w. twisted w) g.V.ByteVector.LANES _ _ _ (omega arith) past.twisted past.kept next.twisted
    next.kept s h)
    ∙ twisted_twice _ _ (c.fits-c s) (c.fits-c (s + 32))

pub returns-else-LANES-lt32-clause-back : goal.returns-else-LANES-lt32-clause-back
returns-else-LANES-lt32-clause-back g c s h =
    let width = g.met.V.ByteVector.width in
    ap twisted (c.twist_lanes.ensures.twisted s s (omega arith) (omega arith))
    ∙ twisted_twice _ _ (c.fits-c s) (c.fits-c (s + 32))
