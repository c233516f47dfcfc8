use Rattle.std.proofs.Common.{rules, arith}
use Rattle.rs_ffi.proofs.LostLemmas.{lost-next, kept-next, lost-end}
use Rattle.rs_ffi.proofs.marked_buffers.indexes_of_lost.Goals.{then-marks-index-eq0+in_ok-push, else-marks-index-eq0}
use Rattle.rs_ffi.proofs.marked_buffers.indexes_of_lost.Goals as goal

pub loop-index-preserved : goal.loop-index-preserved
loop-index-preserved c = search (rules, lost-next, kept-next)

pub returns : goal.returns
returns c = lost-end c.loop-index.index c.args.marks.now c.loop-index.lost.items
    (omega (arith, c.loop-index-test.false)) c.loop-index.invariant
