use Rattle.rs_ffi.specs.declared.fault.Fault.TheVariants.{WrongNumberOfRooms}
use Rattle.rs_ffi.specs.FaultTexts.{text_of}
use Rattle.rs_ffi.proofs.TextLemmas.{ended}
use Rattle.rs_ffi.proofs.text.write_fault.Goals as goal

pub returns-in-WrongNumberOfRooms : goal.returns-in-WrongNumberOfRooms
returns-in-WrongNumberOfRooms c =
    rw c.in-WrongNumberOfRooms.is
    (ended (text_of (WrongNumberOfRooms c.in-WrongNumberOfRooms.wanted c.in-WrongNumberOfRooms.got)) c.args.room.now
    c.write_two-in-WrongNumberOfRooms.ensures)
