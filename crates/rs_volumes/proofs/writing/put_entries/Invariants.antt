use Rattle.std.proofs.Common.{◌≡◌, ◌++◌, take}
use Rattle.std.specs.List.{flat_map}
use Rattle.rs_volumes.specs.Description.{entry_spelling, entries_of}
use Rattle.rs_volumes.proofs.writing.put_entries.Given as goal

abbrev pub invariant-loop-entry : goal.invariant-loop-entry
invariant-loop-entry l =
    l.out.items ≡ l.fn.out.items ++ flat_map entry_spelling (entries_of (take l.entry-index l.entries))
