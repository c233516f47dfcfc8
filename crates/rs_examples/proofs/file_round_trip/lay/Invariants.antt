use Rattle.std.proofs.Common.{◌≡◌, ◌++◌, length, drop}
use Rattle.rs_volumes.specs.Laid.{data_after}
use Rattle.rs_examples.specs.Files.{bytes_of}
use Rattle.rs_examples.proofs.file_round_trip.lay.Given as goal

abbrev pub invariant-loop-file : goal.invariant-loop-file
invariant-loop-file l =
    data_after l.unit 0 (bytes_of l.files)
    ≡ l.row.items ++ data_after l.unit (length l.row.items) (bytes_of (drop l.file-index l.files))
