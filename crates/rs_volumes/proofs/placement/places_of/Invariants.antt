use Rattle.std.proofs.Common.{◌≡◌, ◌^◌, ◌<◌, take}
use Rattle.rs_volumes.specs.Description.{entries_of}
use Rattle.rs_volumes.specs.Data.{end_of}
use Rattle.rs_volumes.specs.Places.{set_places}
use Rattle.rs_volumes.proofs.placement.places_of.Given as goal

abbrev pub invariant-loop-file : goal.invariant-loop-file
invariant-loop-file l =
    record {
      below : l.at < 2 ^ 62;
      end : l.at ≡ end_of l.unit 0 (entries_of (take l.file l.entry-items));
      same : l.places.items ≡ set_places l.unit l.block_bytes 0 0 (entries_of (take l.file l.entry-items));
    }
