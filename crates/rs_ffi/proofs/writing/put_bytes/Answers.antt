use Rattle.std.proofs.Common.{rules}
use Rattle.rs_ffi.proofs.TextLemmas.{over-past, over-inside, length-over}
use Rattle.rs_ffi.proofs.writing.put_bytes.Goals.{then-at-room, else-at-room}
use Rattle.rs_ffi.proofs.writing.put_bytes.Goals as goal

pub returns-clause-written : goal.returns-clause-written
returns-clause-written c text old sized is = search (rules, length-over, over-inside, over-past)
