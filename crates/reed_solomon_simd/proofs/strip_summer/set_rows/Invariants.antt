use Rattle.std.proofs.Common.{◌≡◌, ℕ, ◌<◌, length}
use Rattle.std.specs.Prelude.{slice_index, slice_index_or}
use Rattle.reed_solomon_simd.specs.declared.shard_index.ShardIndex.TheVariants.{Original}
use Rattle.reed_solomon_simd.specs.Base.{row_of}
use Rattle.reed_solomon_simd.proofs.strip_summer.set_rows.Given as goal

-- The rows of the shards before this one are set.
abbrev pub invariant-loop-index : goal.invariant-loop-index
invariant-loop-index l = record {
  number : length l.rows ≡ length l.initial.rows;
  set : (d : ℕ) → d < l.index → slice_index l.rows d ≡ row_of l.frame (slice_index_or l.wanted d (Original 0));
}
