use Rattle.std.proofs.Common.{◌≡◌, ℕ, ◌<◌, ◌≤◌, length}
use Rattle.std.specs.Prelude.{slice_index}
use Rattle.rs_field.specs.code.Column.{shard_at}
use Rattle.reed_solomon_simd.specs.Rooms.{bytes_in, loans_of}
use Rattle.reed_solomon_simd.specs.Updated.{IsChangedStrip}
use Rattle.reed_solomon_simd.proofs.updating.add_to_tails.Given as goal

-- The strips of the shards before the index are changed, and the others are those from before.
abbrev pub invariant-loop-i : goal.invariant-loop-i
invariant-loop-i g l =
    record {
      number : length l.recovery ≡ length l.initial.recovery;
      kept : loans_of l.recovery ≡ loans_of l.initial.recovery;
      changed : (i : ℕ) → i < l.i
          → IsChangedStrip l.start (length l.old) l.old l.new (slice_index l.factors i)
          (shard_at (bytes_in l.initial.recovery) i)
          (shard_at (bytes_in l.recovery) i);
      others : (i : ℕ) → l.i ≤ i → shard_at (bytes_in l.recovery) i ≡ shard_at (bytes_in l.initial.recovery) i;
    }
