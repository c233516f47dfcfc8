use Rattle.std.proofs.Common.{◌≡◌, ℕ, ◌^◌, ◌<◌, [], drop, get_or}
use Rattle.rs_volumes.specs.declared.description.Entry.{Entry}
use Rattle.rs_volumes.specs.Description.{entries_of}
use Rattle.rs_volumes.specs.First.{files_outcome}
use Rattle.rs_volumes.proofs.first.check_files.Given as goal

abbrev pub invariant-loop-file : goal.invariant-loop-file
invariant-loop-file l =
    record {
      same : files_outcome [] (entries_of l.files) ≡ files_outcome l.previous (entries_of (drop l.file-index l.files));
      sized : (k : ℕ) (d : Entry) → k < l.file-index → (get_or l.files k d).size < 2 ^ 62;
    }
