use Rattle.std.proofs.Common.{◌≡◌, take}
use Rattle.rs_volumes.specs.Restoring.{AreRead}
use Rattle.rs_volumes.proofs.restoring.read_pieces.Given as goal

abbrev pub invariant-loop-number : goal.invariant-loop-number
invariant-loop-number g l =
    record {
      read : AreRead l.first (take l.number-index l.numbers) l.start l.end (g.S.BlockSource.blocks l.fn.source)
          l.pieces.items;
      kept : g.S.BlockSource.blocks l.source ≡ g.S.BlockSource.blocks l.fn.source;
    }
