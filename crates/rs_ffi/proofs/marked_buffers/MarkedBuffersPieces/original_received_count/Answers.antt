use Rattle.std.proofs.Common.{length, ap, arith}
use Rattle.rs_ffi.proofs.LostLemmas.{lost-count}
use Rattle.rs_ffi.proofs.MarkedState.{originals-counted}
use Rattle.rs_ffi.proofs.marked_buffers.MarkedBuffersPieces.original_received_count.Goals as goal

pub overflow_sub-result : goal.overflow_sub-result
overflow_sub-result c =
    let x = c.args.self.now in
    let lost = lost-count 0 x.original_marks.now in
    let listed = ap length x.listed in
    omega (arith, lost, listed, x.originals_number)

pub returns : goal.returns
returns c =
    let x = c.args.self.now in
    let lost = lost-count 0 x.original_marks.now in
    let given = originals-counted x in
    let listed = ap length x.listed in
    omega (arith, lost, given, listed, x.originals_number)
