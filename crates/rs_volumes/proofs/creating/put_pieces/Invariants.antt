use Rattle.std.proofs.Common.{◌≡◌, ◌⊎◌, ℕ, ◌+◌, ◌<◌, ◌≤◌, ◌++◌, Some, length}
use Rattle.std.specs.Prelude.{map}
use Rattle.rs_field.specs.code.Column.{Shard, shard_at}
use Rattle.rs_volumes.proofs.creating.put_pieces.Given as goal

abbrev pub invariant-loop-number : goal.invariant-loop-number
invariant-loop-number g l =
    record {
      done : (i : ℕ) (block : Shard) → i < l.number → g.W.BlockSink.written l.fn.sink (l.first + i) ≡ Some block
          → l.start ≡ length block
          → g.W.BlockSink.written l.sink (l.first + i)
          ≡ Some (block ++ shard_at (map (λ piece. piece.items) l.pieces) i);
      rest : (i : ℕ) → (i < l.first) ⊎ (l.first + l.number ≤ i)
          → g.W.BlockSink.written l.sink i ≡ g.W.BlockSink.written l.fn.sink i;
    }
