use Rattle.std.proofs.Common.{◌≡◌, ◌⊎◌, ℕ, ◌+◌, ◌-◌, ◌%◌, ◌≤◌, length}
use Rattle.rs_volumes.proofs.Created.{IsCreatedTo}
use Rattle.rs_volumes.proofs.creating.create_except.Given as goal

abbrev pub invariant-loop-start : goal.invariant-loop-start
invariant-loop-start g l =
    record {
      marks : l.hashers.marks.now ≡ l.fn.work.known.now;
      inside : l.start ≤ l.shape.block_bytes;
      begins : (l.start % 64 ≡ 0) ⊎ (l.start ≡ l.shape.block_bytes);
      originals : length l.hashers.originals.items ≡ l.shape.original_count;
      recovery : length l.hashers.recovery.items ≡ l.shape.recovery_count;
      kept : g.S.BlockSource.blocks l.source ≡ g.S.BlockSource.blocks l.fn.source;
      done : IsCreatedTo l.fn.work.known.now l.shape l.start (g.S.BlockSource.blocks l.fn.source)
          (g.W.BlockSink.written l.fn.sink) (g.W.BlockSink.written l.sink) l.hashers.originals.items
          l.hashers.recovery.items;
      others : (i : ℕ) → l.shape.original_count + l.shape.recovery_count ≤ i
          → g.W.BlockSink.written l.sink i ≡ g.W.BlockSink.written l.fn.sink i;
    }

abbrev pub decreases-loop-start : goal.decreases-loop-start
decreases-loop-start g l = l.shape.block_bytes - l.start
