use Rattle.std.proofs.Common.{ℕ, ◌<◌, ◌≤◌, [], get_or}
use Rattle.rs_field.specs.code.Column.{IsShard}
use Rattle.reed_solomon_simd.specs.Rooms.{shards_of}
use Rattle.reed_solomon_simd.proofs.checked_originals.check_originals.Given as goal

-- The originals below the index are shards of the size, and there are at most `original_count` of them.
abbrev pub invariant-loop-index : goal.invariant-loop-index
invariant-loop-index l =
    record {
      few : l.index ≤ l.original_count;
      sized : (j : ℕ) → j < l.index → IsShard l.shard_bytes (get_or (shards_of l.originals) j []);
    }
