use Rattle.std.proofs.Common.{◌≡◌, length}
use Rattle.rs_volumes.specs.Description.{fields_of}
use Rattle.rs_volumes.specs.Reading.{fields_in}
use Rattle.rs_volumes.proofs.Entries.{after_front}
use Rattle.rs_volumes.proofs.reading.fields_in.Given as goal

abbrev pub invariant-loop-rest : goal.invariant-loop-rest
invariant-loop-rest l = after_front (fields_of l.fields.items) (fields_in (length l.rest) l.rest)
    ≡ fields_in (length l.bytes) l.bytes

abbrev pub decreases-loop-rest : goal.decreases-loop-rest
decreases-loop-rest l = length l.rest
