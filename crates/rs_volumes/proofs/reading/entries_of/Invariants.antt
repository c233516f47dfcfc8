use Rattle.std.proofs.Common.{◌≡◌, ◌-◌}
use Rattle.rs_volumes.specs.Description.{entries_of}
use Rattle.rs_volumes.specs.Reading.{entries_at}
use Rattle.rs_volumes.proofs.Loops.{with_front}
use Rattle.rs_volumes.proofs.reading.entries_of.Given as goal

abbrev pub invariant-loop : goal.invariant-loop
invariant-loop l = with_front (entries_of l.entries.items) (entries_at (l.count - l.counter) l.rest)
    ≡ entries_at l.count l.bytes
