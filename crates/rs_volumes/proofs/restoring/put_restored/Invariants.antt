use Rattle.std.proofs.Common.{◌≡◌, ℕ, false, length, get_or}
use Rattle.rs_field.specs.code.Column.{Shard}
use Rattle.rs_field.specs.code.Given.{Shards}
use Rattle.rs_field.specs.code.OneCall.{shards_in}
use Rattle.rs_volumes.specs.Holding.{AreFor, AreHeld}
use Rattle.rs_volumes.specs.Restoring.{bytes_of}
use Rattle.rs_volumes.proofs.Written.{GetsBelow}
use Rattle.rs_volumes.proofs.restoring.put_restored.Given as goal

abbrev pub invariant-loop-index : goal.invariant-loop-index
invariant-loop-index g l =
    record {
      number : AreFor (length l.wanted) l.outputs;
      put : (held : ℕ → Shard) (before : Shards) → AreHeld l.fn.outputs held before (g.W.BlockSink.written l.fn.sink)
          → (now : ℕ → Shard) × AreHeld l.outputs now before (g.W.BlockSink.written l.sink)
          × GetsBelow l.index-counter l.wanted (λ i. bytes_of (shards_in l.restored i)) held now;
      others : (i : ℕ) → get_or l.wanted i false ≡ false
          → g.W.BlockSink.written l.sink i ≡ g.W.BlockSink.written l.fn.sink i;
    }
