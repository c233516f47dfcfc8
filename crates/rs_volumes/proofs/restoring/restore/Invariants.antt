use Rattle.std.proofs.Common.{◌≡◌, ◌⊎◌, ℕ, ◌-◌, ◌%◌, ◌≤◌, false, length, get_or}
use Rattle.rs_volumes.specs.Holding.{AreFor}
use Rattle.rs_volumes.proofs.Restored.{AreRestoredTo}
use Rattle.rs_volumes.proofs.restoring.restore.Given as goal

abbrev pub invariant-loop-start : goal.invariant-loop-start
invariant-loop-start g l =
    record {
      inside : l.start ≤ l.shape.block_bytes;
      begins : (l.start % 64 ≡ 0) ⊎ (l.start ≡ l.shape.block_bytes);
      number : AreFor (length l.plan.wanted.items) l.outputs;
      kept : g.S.BlockSource.blocks l.source ≡ g.S.BlockSource.blocks l.fn.source;
      done : AreRestoredTo l.shape l.plan l.start (g.S.BlockSource.blocks l.fn.source) l.outputs
          (g.W.BlockSink.written l.fn.sink) (g.W.BlockSink.written l.sink);
      others : (i : ℕ) → get_or l.plan.wanted.items i false ≡ false
          → g.W.BlockSink.written l.sink i ≡ g.W.BlockSink.written l.fn.sink i;
    }

abbrev pub decreases-loop-start : goal.decreases-loop-start
decreases-loop-start g l = l.shape.block_bytes - l.start
