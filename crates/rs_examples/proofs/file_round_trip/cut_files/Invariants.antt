use Rattle.std.proofs.Common.{◌≡◌, length, take}
use Rattle.rs_examples.specs.Blocks.{contents, blocks_in}
use Rattle.rs_examples.specs.Files.{bytes_of, AreWithin, AreCut}
use Rattle.rs_examples.proofs.file_round_trip.cut_files.Given as goal

abbrev pub invariant-loop-place : goal.invariant-loop-place
invariant-loop-place l =
    record {
      number : length l.files.items ≡ l.count;
      kept : blocks_in (contents l.blocks) ≡ blocks_in (contents l.fn.blocks);
      are : AreWithin (contents l.fn.blocks) l.places
          → AreCut l.count (take l.place-index l.places) (contents l.fn.blocks) (bytes_of l.files.items);
    }
