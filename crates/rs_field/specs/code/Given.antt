-- Given shards with their indexes, and the messages that agree with them.
use Rattle.std.specs.Prelude.{◌≡◌, ℕ, zero, suc, ◌+◌, ◌≤◌, ◌==◌, List, [], ◌∷◌, ◌++◌, Option, Some, None, is_some}
use Rattle.std.specs.Prelude.{if◌then◌else◌}
use Rattle.rs_field.specs.code.Column.{Shard, IsShard, AreShards, shard_at}
use Rattle.rs_field.specs.code.Configuration.{Configuration}
use Rattle.rs_field.specs.code.Code.{AreRecovery}

-- a map from index to shard
abbrev pub Shards : Type 0
Shards = ℕ → Option Shard

-- the map without a shard
abbrev pub nothing : Shards
nothing i = None

-- a map into which a shard is entered at an index
unfoldable pub with_entry : Shards → ℕ → Shard → Shards
with_entry given index shard i = if i == index then Some shard else given i

-- every given shard has the size, and its index is below the count
pub record AreWithin (count size : ℕ) (given : Shards) : Type 0 where
  pub none_past : (i : ℕ) → count ≤ i → given i ≡ None
  pub sized : (i : ℕ) (shard : Shard) → given i ≡ Some shard → IsShard size shard

-- the number of indexes below n that have a shard
unfoldable pub count_below : ℕ → Shards → ℕ
count_below zero given = 0
count_below (suc n) given = count_below n given + (if is_some (given n) then 1 else 0)

-- the shard at an index, with this index, if there is one
abbrev pub items_at : ℕ → Option Shard → List (ℕ × Shard)
items_at i None = []
items_at i (Some shard) = (i, shard) ∷ []

-- the shards of a map at the n indexes from `from` on, with their indexes, in order of their index
unfoldable pub items_from : ℕ → ℕ → Shards → List (ℕ × Shard)
items_from from zero given = []
items_from from (suc n) given = items_at from (given from) ++ items_from (suc from) n given

-- the shards of a map at the indexes below n, with their indexes, in order of their index
abbrev pub items_below : ℕ → Shards → List (ℕ × Shard)
items_below n given = items_from 0 n given

-- a list has all shards of a map, with their indexes, in order of their index
pub record Lists (given : Shards) (items : List (ℕ × Shard)) : Type 0 where
  pub count : ℕ
  pub none_past : (i : ℕ) → count ≤ i → given i ≡ None
  pub in_order : items ≡ items_below count given

-- each given shard is the shard with the same index in the list
abbrev pub AreAmong : Shards → List Shard → Type 0
AreAmong given shards = (i : ℕ) (shard : Shard) → given i ≡ Some shard → shard_at shards i ≡ shard

-- a message agrees with given shards if each given original is its own original with this index, and each given
-- recovery shard is its own recovery shard with this index
pub record Agrees (c : Configuration) (originals recovery : Shards) (message : List Shard) : Type 0 where
  pub shards : AreShards c.original_count c.shard_bytes message
  pub own : AreAmong originals message
  pub coded : (all : List Shard) × AreRecovery c message all × AreAmong recovery all

-- some message agrees with the given shards
abbrev pub Consistent : Configuration → Shards → Shards → Type 0
Consistent c originals recovery = (message : List Shard) × Agrees c originals recovery message
