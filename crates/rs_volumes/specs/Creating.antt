-- What the creation of a set guarantees.
use Rattle.std.specs.Prelude.{◌≡◌, ℕ, ◌+◌, ◌-◌, ◌<◌, Bool, List, [], ◌++◌, length, All, Option, Some, Err}
use Rattle.std.specs.declared.io.Error.{Error}
use Rattle.std.specs.List.{between, flat_map}
use Rattle.sha2.specs.Sha256.{sha256}
use Rattle.sha2.specs.declared.Sha256.{Sha256}
use Rattle.rs_field.specs.declared.code.error.Error.{Error as CodeError}
use Rattle.rs_field.specs.code.Column.{Shard, AreShards, shard_at}
use Rattle.rs_field.specs.code.Code.{AreRecovery}
use Rattle.rs_field.specs.code.Given.{Shards}
use Rattle.rs_field.specs.code.OneCall.{OneEncodeAnswers, default_of}
use Rattle.rs_field.specs.code.Pieces.{IsStrip}
use Rattle.rs_volumes.specs.declared.coding_error.CodingError.{CodingError}
use Rattle.rs_volumes.specs.declared.coding_error.CodingError.TheVariants as errors
use Rattle.rs_volumes.specs.declared.creating.Shape.{Shape}
use Rattle.rs_volumes.specs.Failing.{FailsToRead, FailsToWrite}
use Rattle.rs_volumes.specs.Hashing.{AreHashed, joined, emptied}

-- a set was created from the blocks that were read: there are k original blocks, r recovery blocks of these, and the
-- digest of each block
pub record IsCreated (shape : Shape) (known before after : Shards) (digests : List ℕ) : Type 0 where
  pub originals : List Shard
  pub recovery : List Shard
  pub shards : AreShards shape.original_count shape.block_bytes originals
  pub coded : AreRecovery (default_of shape.original_count shape.recovery_count shape.block_bytes) originals recovery
  -- a whole block that the source is known to hold was read as it is
  pub read : (i : ℕ) (block : Shard) → i < shape.original_count → known i ≡ Some block
      → length block ≡ shape.block_bytes → shard_at originals i ≡ block
  pub digests_are : digests ≡ flat_map sha256 originals ++ flat_map sha256 recovery
  -- if the sink is known to hold nothing of a block before, it is known to hold the whole block afterwards
  pub written : (i : ℕ) → i < shape.original_count + shape.recovery_count → before i ≡ Some []
      → after i ≡ Some (shard_at (originals ++ recovery) i)

-- a set was created as `IsCreated` says, but the digest of an original block that is marked is that of no bytes
pub record IsCreatedExcept (marks : List Bool) (shape : Shape) (known before after : Shards) (digests : List ℕ) : Type 0
  where
    pub originals : List Shard
    pub recovery : List Shard
    pub shards : AreShards shape.original_count shape.block_bytes originals
    pub coded : AreRecovery (default_of shape.original_count shape.recovery_count shape.block_bytes) originals recovery
    pub read : (i : ℕ) (block : Shard) → i < shape.original_count → known i ≡ Some block
        → length block ≡ shape.block_bytes → shard_at originals i ≡ block
    pub digests_are : digests ≡ flat_map sha256 (emptied marks originals) ++ flat_map sha256 recovery
    pub written : (i : ℕ) → i < shape.original_count + shape.recovery_count → before i ≡ Some []
        → after i ≡ Some (shard_at (originals ++ recovery) i)

-- the pieces of the blocks below `count` that a source returned: the bytes from `start` on, up to but without `end`
pub record ArePieces (count start end : ℕ) (known : Shards) (pieces : List Shard) : Type 0 where
  pub number : length pieces ≡ count
  pub sized : All (λ piece. length piece ≡ end - start) pieces
  pub bytes : (i : ℕ) (block : Shard) → i < count → known i ≡ Some block → shard_at pieces i ≡ between start end block

-- the code fails with an error for some pieces of the original blocks
pub record FailsToEncode (shape : Shape) (known : Shards) (e : CodeError) : Type 0 where
  pub start : ℕ
  pub end : ℕ
  pub pieces : List Shard
  pub order : start < end
  pub strip : IsStrip start end shape.block_bytes
  pub are : ArePieces shape.original_count start end known pieces
  pub answers : OneEncodeAnswers shape.original_count shape.recovery_count pieces (Err e)

-- a creation may fail with this error
abbrev pub CreatingFails : Shape → (Option Shard → ℕ → Error → Type 0) → (Option Shard → ℕ → Error → Type 0) → Shards
    → Shards → CodingError → Type 0
CreatingFails shape reads writes known before errors.Memory = Unit {0}
CreatingFails shape reads writes known before (errors.Read i e) =
    (i < shape.original_count) × FailsToRead reads shape.block_bytes (known i) e
CreatingFails shape reads writes known before (errors.Write i e) =
    (i < shape.original_count + shape.recovery_count) × FailsToWrite writes (before i) e
CreatingFails shape reads writes known before (errors.Code e) = FailsToEncode shape known e
CreatingFails shape reads writes known before (errors.Missing n) = ⊥
CreatingFails shape reads writes known before (errors.NotFound i) = ⊥
CreatingFails shape reads writes known before (errors.Digest i) = ⊥

-- a piece of each block, up to byte `end`, was not created because of this error
abbrev pub PieceFails : Shape → (Option Shard → ℕ → Error → Type 0) → (Option Shard → ℕ → Error → Type 0) → ℕ → ℕ
    → Shards → Shards → CodingError → Type 0
PieceFails shape reads writes start end known before errors.Memory = Unit {0}
PieceFails shape reads writes start end known before (errors.Read i e) =
    (i < shape.original_count) × reads (known i) end e
PieceFails shape reads writes start end known before (errors.Write i e) =
    (i < shape.original_count + shape.recovery_count) × writes (before i) start e
PieceFails shape reads writes start end known before (errors.Code e) =
    (pieces : List Shard) × ArePieces shape.original_count start end known pieces
    × OneEncodeAnswers shape.original_count shape.recovery_count pieces (Err e)
PieceFails shape reads writes start end known before (errors.Missing n) = ⊥
PieceFails shape reads writes start end known before (errors.NotFound i) = ⊥
PieceFails shape reads writes start end known before (errors.Digest i) = ⊥

-- a piece of each block was read, coded, hashed and written: the bytes from `start` on, up to but without `end`; of a
-- marked original block, nothing was hashed
pub record MakesPiece (marks : List Bool) (shape : Shape) (start end : ℕ) (known before after : Shards)
    (hashers new_hashers recovery_hashers new_recovery_hashers : List Sha256) : Type 0 where
  pub pieces : List Shard
  pub made : List Shard
  pub shards : AreShards shape.original_count (end - start) pieces
  pub coded : AreRecovery (default_of shape.original_count shape.recovery_count (end - start)) pieces made
  pub read : (i : ℕ) (block : Shard) → i < shape.original_count → known i ≡ Some block
      → shard_at pieces i ≡ between start end block
  pub hashed : (blocks : List Shard) → AreHashed hashers blocks → AreHashed new_hashers
      (joined blocks (emptied marks pieces))
  pub recovery_hashed : (blocks : List Shard) → AreHashed recovery_hashers blocks
      → AreHashed new_recovery_hashers (joined blocks made)
  pub put : (i : ℕ) (block : Shard) → i < shape.original_count + shape.recovery_count → before i ≡ Some block
      → start ≡ length block → after i ≡ Some (block ++ shard_at (pieces ++ made) i)
