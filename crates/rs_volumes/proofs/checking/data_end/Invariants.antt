use Rattle.std.proofs.Common.{◌≡◌, ◌^◌, ◌<◌, drop}
use Rattle.rs_volumes.specs.Description.{entries_of}
use Rattle.rs_volumes.specs.Data.{end_of}
use Rattle.rs_volumes.proofs.checking.data_end.Given as goal

abbrev pub invariant-loop-entry : goal.invariant-loop-entry
invariant-loop-entry l =
    record {
      same : end_of l.unit 0 (entries_of l.entries) ≡ end_of l.unit l.end (entries_of (drop l.entry-index l.entries));
      below : l.end < 2 ^ 62;
    }
