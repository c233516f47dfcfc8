-- The kinds and the indexes of shards.
use Rattle.std.specs.Prelude.{ℕ, ◌==◌, Bool, true, false, List}
use Rattle.rs_field.specs.code.Column.{Shard, shard_at}
use Rattle.reed_solomon_simd.specs.declared.shard_index.ShardIndex.{ShardIndex}
use Rattle.reed_solomon_simd.specs.declared.shard_index.ShardIndex.TheVariants.{Original, Recovery}

-- the shard of a codeword that a kind and an index name
abbrev pub shard_named : List Shard → List Shard → ShardIndex → Shard
shard_named message recovery (Original i) = shard_at message i
shard_named message recovery (Recovery i) = shard_at recovery i

-- the index of a shard among the shards of its kind
abbrev pub index_of : ShardIndex → ℕ
index_of (Original i) = i
index_of (Recovery i) = i

-- whether a name is that of a recovery shard
abbrev pub is_recovery : ShardIndex → Bool
is_recovery (Original i) = false
is_recovery (Recovery i) = true

-- whether two names are the same: of one kind, with one index
abbrev pub is_same : ShardIndex → ShardIndex → Bool
is_same (Original i) (Original j) = i == j
is_same (Original i) (Recovery j) = false
is_same (Recovery i) (Original j) = false
is_same (Recovery i) (Recovery j) = i == j
