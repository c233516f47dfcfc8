use Rattle.std.proofs.Common.{ℕ, ◌<◌, get_or}
use Rattle.rs_volumes.specs.declared.description.Entry.{Entry}
use Rattle.rs_volumes.specs.Description.{HasShortNames}
use Rattle.rs_volumes.proofs.checking.has_short_names.Given as goal

abbrev pub invariant-loop-entry : goal.invariant-loop-entry
invariant-loop-entry l = (k : ℕ) (d : Entry) → k < l.entry-index → HasShortNames (get_or l.entries k d)
