use Rattle.std.proofs.Common.{◌≡◌, [], drop}
use Rattle.rs_volumes.specs.Description.{entries_of}
use Rattle.rs_volumes.specs.Sound.{entries_outcome}
use Rattle.rs_volumes.proofs.checking.check_entries.Given as goal

abbrev pub invariant-loop-entry : goal.invariant-loop-entry
invariant-loop-entry l = entries_outcome [] (entries_of l.entries)
    ≡ entries_outcome l.previous (entries_of (drop l.entry-index l.entries))
