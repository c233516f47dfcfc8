use Rattle.std.proofs.Common.{◌≡◌, ℕ, false, length, get_or, take}
use Rattle.rs_field.specs.code.Column.{Shard}
use Rattle.rs_field.specs.code.Given.{Shards}
use Rattle.rs_volumes.specs.Holding.{AreFor, AreHeld}
use Rattle.rs_volumes.specs.Restoring.{Gets, items_of, piece_of}
use Rattle.rs_volumes.proofs.restoring.put_read.Given as goal

abbrev pub invariant-loop-index : goal.invariant-loop-index
invariant-loop-index g l =
    record {
      number : AreFor (length l.wanted) l.outputs;
      put : (held : ℕ → Shard) (before : Shards) → AreHeld l.fn.outputs held before (g.W.BlockSink.written l.fn.sink)
          → (now : ℕ → Shard) × AreHeld l.outputs now before (g.W.BlockSink.written l.sink)
          × Gets l.wanted (λ i. piece_of i (items_of (take l.index-index l.pieces))) held now;
      others : (i : ℕ) → get_or l.wanted i false ≡ false
          → g.W.BlockSink.written l.sink i ≡ g.W.BlockSink.written l.fn.sink i;
    }
