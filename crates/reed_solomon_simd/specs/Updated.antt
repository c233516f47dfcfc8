-- What `update_into` returns, and what becomes of the recovery shards.
use Rattle.std.specs.Prelude.{
  ◌≡◌,
  ◌⊎◌,
  ℕ,
  ◌-◌,
  ◌/◌,
  ◌<◌,
  ◌==◌,
  bit_xor,
  All,
  List,
  length,
  slice_index,
  take,
  drop,
  replicate,
  nat_le,
  if◌then◌else◌,
  Result,
  Ok,
  Err,
  MatchResult,
}
use Rattle.std.specs.List.{between}
use Rattle.std.specs.Result.{result_map_both}
use Rattle.rs_field.specs.declared.code.error.Error.{Error}
use Rattle.rs_field.specs.declared.code.error.Error.TheVariants.{
  OutOfMemory,
  InvalidOriginalShardIndex,
  DifferentShardSize,
}
use Rattle.rs_field.specs.code.Code.{AreRecovery}
use Rattle.rs_field.specs.words.Field.{product, power}
use Rattle.rs_field.specs.code.Column.{Shard, AreShards, shard_at, column}
use Rattle.rs_field.specs.code.Configuration.{validation_outcome}
use Rattle.rs_field.specs.code.OneCall.{default_of}
use Rattle.rs_field.specs.code.Counts.{default_rate}
use Rattle.rs_field.specs.code.OneChange.{ChangesOnly, AreChangeFactors}
use Rattle.rs_field.specs.code.Outcome.{result_and_then}
use Rattle.reed_solomon_simd.specs.declared.room_error.RoomError.{RoomError}
use Rattle.reed_solomon_simd.specs.declared.room_error.RoomError.TheVariants.{Refused}
use Rattle.reed_solomon_simd.specs.Into.{rooms_fit}

-- for all messages that differ at most in the original with this index, which is `old` in the first and `new` in the
-- second: if shards were the recovery shards of the first, the new shards are those of the second
abbrev pub UpdatesShards : ℕ → ℕ → ℕ → Shard → Shard → List Shard → List Shard → Type 0
UpdatesShards k r index old new before after =
    (message changed : List Shard) → AreShards k (length old) message → AreShards k (length old) changed
    → ChangesOnly index message changed → shard_at message index ≡ old → shard_at changed index ≡ new
    → AreRecovery (default_of k r (length old)) message before
    → AreRecovery (default_of k r (length old)) changed after

-- a shard is another one plus the change of an original, times the generator to the power of this logarithm
pub record IsChanged (old new : Shard) (log : ℕ) (before after : Shard) : Type 0 where
  pub length_is : length after ≡ length before
  pub bytes : All (λ b. b < 256) after
  pub words : (j : ℕ) → j < length before / 2
      → column j after ≡ bit_xor (column j before) (product (bit_xor (column j old) (column j new)) (power log))

-- each room holds what it held before plus the change of the original, times the factor of its recovery shard. This
-- is so whatever the rooms held before
abbrev pub AddsChange : ℕ → ℕ → ℕ → Shard → Shard → List Shard → List Shard → Type 0
AddsChange k r index old new before after =
    (factors : List ℕ) × AreChangeFactors default_rate k r index factors
    × ((i : ℕ) → i < r → IsChanged old new (slice_index factors i) (shard_at before i) (shard_at after i))

-- the outcome of checking a change: first the counts and the size, then the index, and then the size of the new
-- original
abbrev pub change_outcome : ℕ → ℕ → ℕ → ℕ → ℕ → Result (Unit {0}) Error
change_outcome k r index size other =
    result_and_then (λ _. if nat_le k index then Err (InvalidOriginalShardIndex k index)
    else if other == size then Ok tt else Err (DifferentShardSize size other))
    (validation_outcome (default_of k r size))

-- the outcome of the checks of an update: first the change, and then the rooms, one for each recovery shard
abbrev pub update_outcome : ℕ → ℕ → ℕ → ℕ → ℕ → List (List ℕ) → Result (Unit {0}) RoomError
update_outcome k r index size other rooms =
    result_and_then (λ _. rooms_fit (replicate r (replicate size 0)) rooms)
    (result_map_both (λ u. u) Refused (change_outcome k r index size other))

-- the result of `update_into`: the first error of the checks, or updated recovery shards, or `OutOfMemory`. After an
-- error the rooms are unchanged
abbrev pub UpdatesInto : ℕ → ℕ → ℕ → Shard → Shard → List (List ℕ) → List (List ℕ) → Result (Unit {0}) RoomError
    → Type 0
UpdatesInto k r index old new before after answer =
    MatchResult (update_outcome k r index (length old) (length new) before)
    (λ _. ((answer ≡ Ok tt) × UpdatesShards k r index old new before after
    × AddsChange k r index old new before after)
    ⊎ ((answer ≡ Err (Refused OutOfMemory)) × (after ≡ before)))
    (λ e. (answer ≡ Err e) × (after ≡ before))

-- a shard is another one plus a change from byte `start` up to byte `end`, times the generator to the power of this
-- logarithm
pub record AddsToStrip (start end : ℕ) (change : Shard) (log : ℕ) (before after : Shard) : Type 0 where
  pub length_is : length after ≡ length before
  pub bytes : All (λ b. b < 256) after
  pub first : take start after ≡ take start before
  pub rest : drop end after ≡ drop end before
  pub words : (j : ℕ) → j < length change / 2
      → column j (between start end after)
      ≡ bit_xor (column j (between start end before)) (product (column j change) (power log))

-- a shard is another one plus the change of an original from byte `start` up to byte `end`, times the generator to the
-- power of this logarithm
pub record IsChangedStrip (start end : ℕ) (old new : Shard) (log : ℕ) (before after : Shard) : Type 0 where
  pub length_is : length after ≡ length before
  pub bytes : All (λ b. b < 256) after
  pub first : take start after ≡ take start before
  pub rest : drop end after ≡ drop end before
  pub words : (j : ℕ) → j < (end - start) / 2
      → column j (between start end after)
      ≡ bit_xor (column j (between start end before))
      (product (bit_xor (column j (between start end old)) (column j (between start end new))) (power log))
