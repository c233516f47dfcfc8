use Rattle.std.proofs.Common.{◌≡◌, ℕ, ◌<◌, List, [], length, drop, get_or}
use Rattle.reed_solomon_simd.specs.declared.shard_index.ShardIndex.{ShardIndex}
use Rattle.reed_solomon_simd.specs.Reconstructed.{wanted_outcome, CanBeRebuilt}
use Rattle.reed_solomon_simd.specs.ReceivedState.{received_state}
use Rattle.reed_solomon_simd.specs.WantedMarks.{AreMarked}
use Rattle.reed_solomon_simd.proofs.wanted_shards.mark_all.Given as goal

-- The shards below the index were checked: they are marked, and they can be rebuilt. What is left is to check the
-- others after them.
abbrev pub invariant-loop-index : goal.invariant-loop-index
invariant-loop-index l =
    record {
      before : List ShardIndex;
      marked : AreMarked before l.originals l.recovery;
      own : length l.originals ≡ l.received.counts.original_count;
      coded : length l.recovery ≡ l.received.counts.recovery_count;
      led : wanted_outcome (received_state l.received) [] l.wanted
          ≡ wanted_outcome (received_state l.received) before (drop l.index l.wanted);
      can : (i : ℕ) (d : ShardIndex) → i < l.index
          → CanBeRebuilt (received_state l.received) (get_or l.wanted i d);
    }
