-- The texts of faults.
use Rattle.std.specs.Prelude.{
  ◌≡◌,
  ℕ,
  ◌==◌,
  List,
  [],
  ◌++◌,
  length,
  take,
  drop,
  Option,
  Some,
  None,
  nat_le,
  if◌then◌else◌,
}
use Rattle.std.specs.Option.{option_map}
use Rattle.rs_field.specs.declared.code.error.Error.{Error}
use Rattle.rs_field.specs.declared.code.error.Error.TheVariants.{OutOfMemory, UnsupportedShardCount, InvalidShardSize}
use Rattle.rs_field.specs.declared.code.error.Error.TheVariants.{DifferentShardSize, TooFewOriginalShards}
use Rattle.rs_field.specs.declared.code.error.Error.TheVariants.{TooManyOriginalShards, NotEnoughShards}
use Rattle.rs_field.specs.declared.code.error.Error.TheVariants.{InvalidOriginalShardIndex, InvalidRecoveryShardIndex}
use Rattle.rs_field.specs.declared.code.error.Error.TheVariants.{DuplicateOriginalShardIndex}
use Rattle.rs_field.specs.declared.code.error.Error.TheVariants.{DuplicateRecoveryShardIndex, InconsistentShards}
use Rattle.rs_ffi.specs.declared.fault.Fault.{Fault}
use Rattle.rs_ffi.specs.declared.fault.Fault.TheVariants.{Refused, WrongLength, WrongNumberOfRooms, TablesNotMade}
use Rattle.rs_ffi.specs.declared.fault.Fault.TheVariants.{WantedIndexTooLarge, WantedTwice, WantedReceived}
use Rattle.rs_ffi.specs.declared.fault.RsFault.{RsFault}
use Rattle.rs_ffi.specs.Faults.{named}
use Rattle.rs_ffi.specs.FaultTexts.{text_of}

-- the error about a decoder's shards that has these numbers, if there is one
abbrev pub shard_refusal_with : RsFault → Option Error
shard_refusal_with fault =
    if fault.number == 8 then Some (InvalidOriginalShardIndex fault.first fault.second)
    else if fault.number == 9 then Some (InvalidRecoveryShardIndex fault.first fault.second)
    else if fault.number == 10 then Some (DuplicateOriginalShardIndex fault.first)
    else if fault.number == 11 then Some (DuplicateRecoveryShardIndex fault.first)
    else if fault.number == 12 then Some (InconsistentShards fault.first fault.second)
    else None

-- the error of the library that has these numbers, if there is one
abbrev pub refusal_with : RsFault → Option Error
refusal_with fault =
    if fault.number == 1 then Some OutOfMemory
    else if fault.number == 2 then Some (UnsupportedShardCount fault.first fault.second)
    else if fault.number == 3 then Some (InvalidShardSize fault.first)
    else if fault.number == 4 then Some (DifferentShardSize fault.first fault.second)
    else if fault.number == 5 then Some (TooFewOriginalShards fault.first fault.second)
    else if fault.number == 6 then Some (TooManyOriginalShards fault.first)
    else if fault.number == 7 then Some (NotEnoughShards fault.first fault.second fault.third)
    else shard_refusal_with fault

-- the fault about a wanted shard that has these numbers, if there is one
abbrev pub wanted_fault_with : RsFault → Option Fault
wanted_fault_with fault =
    if fault.number == 16 then Some (WantedIndexTooLarge (named fault.third fault.second) fault.first)
    else if fault.number == 17 then Some (WantedTwice (named fault.second fault.first))
    else if fault.number == 18 then Some (WantedReceived (named fault.second fault.first))
    else None

-- the fault that has these numbers, if there is one
abbrev pub fault_with : RsFault → Option Fault
fault_with fault =
    if nat_le 16 fault.number then wanted_fault_with fault
    else if fault.number == 13 then Some (WrongLength fault.first fault.second fault.third)
    else if fault.number == 14 then Some (WrongNumberOfRooms fault.first fault.second)
    else if fault.number == 15 then Some TablesNotMade
    else option_map Refused (refusal_with fault)

-- the text of a fault, or an empty text if there is no fault
abbrev pub text_with : Option Fault → List ℕ
text_with (Some fault) = text_of fault
text_with None = []

-- the bytes of a buffer after a text was written into it from the first byte on, as much of the text as fits. The other
-- bytes of the buffer are unchanged
abbrev pub text_over : List ℕ → List ℕ → List ℕ
text_over text room = take (length room) text ++ drop (length text) room

-- the call returns the length of the text, and the buffer holds as much of the text as fits
abbrev pub WritesText : List ℕ → List ℕ → List ℕ → ℕ → Type 0
WritesText text old new returned = (returned ≡ length text) × (new ≡ text_over text old)
