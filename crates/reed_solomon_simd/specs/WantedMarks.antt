-- Marks of wanted shards.
use Rattle.std.specs.Prelude.{◌≡◌, ℕ, Bool, false, List, slice_index_or}
use Rattle.std.specs.List.{list_any}
use Rattle.reed_solomon_simd.specs.declared.shard_index.ShardIndex.{ShardIndex}
use Rattle.reed_solomon_simd.specs.declared.shard_index.ShardIndex.TheVariants.{Original, Recovery}
use Rattle.reed_solomon_simd.specs.ShardNames.{is_same}

-- exactly the places of the wanted originals and of the wanted recovery shards are marked
pub record AreMarked (wanted : List ShardIndex) (originals recovery : List Bool) : Type 0 where
  pub own : (i : ℕ) → slice_index_or originals i false ≡ list_any (is_same (Original i)) wanted
  pub coded : (i : ℕ) → slice_index_or recovery i false ≡ list_any (is_same (Recovery i)) wanted
