use Rattle.std.proofs.Common.{◌≡◌, drop}
use Rattle.rs_volumes.specs.Description.{entries_of}
use Rattle.rs_volumes.specs.First.{exceeds}
use Rattle.rs_volumes.proofs.first.exceeds.Given as goal

abbrev pub invariant-loop-file : goal.invariant-loop-file
invariant-loop-file l = exceeds l.block_bytes (entries_of l.files)
    ≡ exceeds l.block_bytes (entries_of (drop l.file-index l.files))
