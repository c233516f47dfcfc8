use Rattle.std.proofs.Common.{◌≡◌, ℕ, false, length}
use Rattle.std.specs.Prelude.{map}
use Rattle.reed_solomon_simd.specs.Column.{shard_at}
use Rattle.rs_examples.specs.Blocks.{contents}
use Rattle.rs_examples.specs.Losing.{is_lost}
use Rattle.rs_examples.proofs.block_round_trip.damage_blocks.Given as goal

abbrev pub invariant-loop-index : goal.invariant-loop-index
invariant-loop-index l =
    record {
      number : length l.stored.blocks.items ≡ length l.fn.stored.blocks.items;
      left : (i : ℕ) → is_lost (map (λ lost. lost.0) l.damage) i ≡ false
          → shard_at (contents l.stored) i ≡ shard_at (contents l.fn.stored) i;
    }
