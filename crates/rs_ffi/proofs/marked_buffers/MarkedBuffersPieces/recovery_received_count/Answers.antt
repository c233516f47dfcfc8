use Rattle.std.proofs.Common.{◌∙◌, sym}
use Rattle.rs_ffi.proofs.MarkedLemmas.{count-present}
use Rattle.rs_ffi.proofs.MarkedState.{recovery-counted}
use Rattle.rs_ffi.proofs.marked_buffers.MarkedBuffersPieces.recovery_received_count.Goals as goal

pub returns : goal.returns
returns c =
    let x = c.args.self.now in
    x.counted ∙ sym (count-present x.recovery_marks.now) ∙ sym (recovery-counted x)
