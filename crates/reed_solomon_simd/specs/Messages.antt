-- Messages of any length: the shards that hold their bytes, and the bytes and originals that come back.
use Rattle.std.specs.Prelude.{◌≡◌, ℕ, ◌-◌, ◌*◌, ◌%◌, ◌<◌, ◌≤◌, ◌==◌, ◌||◌, ◌⊎◌, List, [], ◌∷◌, ◌++◌, length, take}
use Rattle.std.specs.Prelude.{replicate, All, Some, None, is_some, IsSome, Result, Ok, Err, MatchResult, IsOkAnd}
use Rattle.std.specs.Prelude.{nat_le, nat_lt, if◌then◌else◌}
use Rattle.std.specs.Int.{div_ceil}
use Rattle.std.specs.List.{flat_map}
use Rattle.std.specs.Result.{result_map_both}
use Rattle.std.specs.declared.vec.Vec.{Vec}
use Rattle.rs_field.specs.declared.code.error.Error.{Error}
use Rattle.rs_field.specs.declared.code.error.Error.TheVariants.{DifferentShardSize, DuplicateOriginalShardIndex}
use Rattle.rs_field.specs.declared.code.error.Error.TheVariants.{InvalidOriginalShardIndex, InvalidShardSize}
use Rattle.rs_field.specs.declared.code.error.Error.TheVariants.{OutOfMemory, TooFewOriginalShards}
use Rattle.rs_field.specs.code.Column.{Shard, shard_at}
use Rattle.rs_field.specs.code.Given.{Shards, with_entry, count_below}
use Rattle.rs_field.specs.code.OneCall.{Items, one_by_one}
use Rattle.rs_field.specs.code.Outcome.{result_and_then}

-- ---- bytes into shards

-- the bytes of shards, laid end to end
abbrev pub joined : List Shard → List ℕ
joined shards = flat_map (λ shard. shard) shards

-- k shards of this size hold a message of this many bytes: k is above zero, the size is even and above zero, and the
-- shards have no fewer bytes than the message
pub record HoldsMessage (k total size : ℕ) : Type 0 where
  pub shards : 0 < k
  pub some : 0 < size
  pub even : size % 2 ≡ 0
  pub room : total ≤ k * size

-- the least size with which k shards hold a message of this many bytes
pub record IsLeastSize (k total size : ℕ) : Type 0 where
  pub holds : HoldsMessage k total size
  pub least : (other : ℕ) → HoldsMessage k total other → size ≤ other

-- the shards of a message: k shards of the least size, which hold the bytes of the message and then zeros
pub record AreShardsOf (k : ℕ) (message : List ℕ) (shards : List Shard) : Type 0 where
  pub size : ℕ
  pub least : IsLeastSize k (length message) size
  pub number : length shards ≡ k
  pub sized : All (λ shard. length shard ≡ size) shards
  pub padded : joined shards ≡ message ++ replicate (k * size - length message) 0

-- ---- shards into bytes

-- the size, or the error for the first shard that does not have this size
abbrev pub same_size : ℕ → List Shard → Result ℕ Error
same_size size [] = Ok size
same_size size (shard ∷ shards) =
    if length shard == size then same_size size shards else Err (DifferentShardSize size (length shard))

-- the size of all shards, or the first error: there is no shard, the size of the first one is zero or odd, or another
-- shard has another size
abbrev pub size_of_shards : List Shard → Result ℕ Error
size_of_shards [] = Err (TooFewOriginalShards 1 0)
size_of_shards (shard ∷ shards) =
    if length shard == 0 || length shard % 2 == 1 then Err (InvalidShardSize (length shard))
    else same_size (length shard) (shard ∷ shards)

-- the first bytes of shards of this size, as many as wanted, or the error if the shards hold fewer bytes, with the
-- number of shards that are needed
abbrev pub first_bytes : List Shard → ℕ → ℕ → Result (List ℕ) Error
first_bytes shards total size =
    if nat_lt (length (joined shards)) total
    then Err (TooFewOriginalShards (div_ceil total size) (length shards)) else Ok (take total (joined shards))

-- the outcome of joining shards into a message of this many bytes
abbrev pub join_outcome : List Shard → ℕ → Result (List ℕ) Error
join_outcome shards total = result_and_then (first_bytes shards total) (size_of_shards shards)

-- the bytes in the vector of a result, or the error
abbrev pub collected_bytes : {Z : Type 0} → Result (Vec ℕ Z) Error → Result (List ℕ) Error
collected_bytes result = result_map_both (λ vector. vector.items) (λ e. e) result

-- ---- received and restored originals into all originals

-- the map with one more original, or an error: its index must be below k, and the map must have no original with this
-- index
abbrev pub enter_outcome : ℕ → Shards → ℕ × Shard → Result Shards Error
enter_outcome k given item =
    if nat_le k item.0 then Err (InvalidOriginalShardIndex k item.0)
    else if is_some (given item.0) then Err (DuplicateOriginalShardIndex item.0)
    else Ok (with_entry given item.0 item.1)

-- the map, or the error if some of its k originals are missing
abbrev pub whole_outcome : ℕ → Shards → Result Shards Error
whole_outcome k all =
    if nat_lt (count_below k all) k then Err (TooFewOriginalShards k (count_below k all)) else Ok all

-- the map of all originals, or the first error: the received originals are entered in order into the map of the
-- restored ones, and then no original may be missing
abbrev pub complete_outcome : ℕ → Items → Shards → Result Shards Error
complete_outcome k received restored =
    result_and_then (whole_outcome k) (one_by_one (enter_outcome k) restored received)

-- k originals in order of their index
pub record AreInOrder (k : ℕ) (all : Shards) (originals : List Shard) : Type 0 where
  pub number : length originals ≡ k
  pub each : (i : ℕ) → i < k → all i ≡ Some (shard_at originals i)

-- a result has the originals of a map in order, or the error in place of the map, or it is `OutOfMemory`
abbrev pub HasInOrder : ℕ → Result Shards Error → Result (List Shard) Error → Type 0
HasInOrder k wanted result =
    (result ≡ Err OutOfMemory)
    ⊎ MatchResult wanted (λ all. IsOkAnd result (AreInOrder k all)) (λ e. result ≡ Err e)

-- no restored original has an index from k on
abbrev pub AreBelow : ℕ → Shards → Type 0
AreBelow k restored = (index : ℕ) → k ≤ index → restored index ≡ None

-- the error is that of a restored original whose index is not below k
abbrev pub IsPast : ℕ → Shards → Error → Type 0
IsPast k restored e =
    (index : ℕ) × (k ≤ index) × IsSome (restored index) × (e ≡ InvalidOriginalShardIndex k index)

-- the relation of received and restored originals to the result of `complete`: all originals in order, or the first
-- error, where the indexes of the restored originals are checked first, or `OutOfMemory` after this check
abbrev pub Completes : ℕ → Items → Shards → Result (List Shard) Error → Type 0
Completes k received restored result =
    ((e : Error) × IsPast k restored e × (result ≡ Err e))
    ⊎ (AreBelow k restored × HasInOrder k (complete_outcome k received restored) result)
