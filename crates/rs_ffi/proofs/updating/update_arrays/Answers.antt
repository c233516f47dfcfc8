use Rattle.std.proofs.Common.{rules}
use Rattle.rs_ffi.proofs.RoomFaults.{keeps-rooms}
use Rattle.rs_ffi.proofs.updating.update_arrays.Goals as goal

pub returns-in-Err-clause-answer : goal.returns-in-Err-clause-answer
returns-in-Err-clause-answer g c = search rules

pub returns-in-Err-clause-kept : goal.returns-in-Err-clause-kept
returns-in-Err-clause-kept g c = keeps-rooms c.args.recovery.now _ c.update_into-answer.ensures.kept

pub returns-clause-answer : goal.returns-clause-answer
returns-clause-answer g c = search rules

pub returns-clause-kept : goal.returns-clause-kept
returns-clause-kept g c = keeps-rooms c.args.recovery.now _ c.update_into-answer.ensures.kept
