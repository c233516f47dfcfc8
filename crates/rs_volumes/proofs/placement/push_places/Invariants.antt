use Rattle.std.proofs.Common.{◌≡◌, ◌-◌, ◌/◌, ◌≤◌, ◌++◌}
use Rattle.rs_volumes.specs.Places.{run_places}
use Rattle.rs_volumes.proofs.placement.push_places.Given as goal

abbrev pub invariant-loop-block : goal.invariant-loop-block
invariant-loop-block l =
    record {
      order : l.extent.start / l.block_bytes ≤ l.block;
      same : l.places.items ≡ l.fn.places.items
          ++ run_places l.block_bytes l.extent.file l.extent.start l.extent.end (l.extent.start / l.block_bytes)
          (l.block - l.extent.start / l.block_bytes);
    }
