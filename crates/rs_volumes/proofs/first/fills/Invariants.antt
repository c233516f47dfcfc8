use Rattle.std.proofs.Common.{◌≡◌, drop, eqb}
use Rattle.rs_volumes.specs.Description.{entries_of}
use Rattle.rs_volumes.specs.First.{blocks_in}
use Rattle.rs_volumes.proofs.first.fills.Given as goal

abbrev pub invariant-loop-file : goal.invariant-loop-file
invariant-loop-file l =
    record {
      same : eqb (blocks_in l.block_bytes (entries_of l.files)) l.count
          ≡ eqb (blocks_in l.block_bytes (entries_of (drop l.file-index l.files))) l.left;
    }
