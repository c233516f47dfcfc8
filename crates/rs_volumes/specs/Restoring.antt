-- What a restore guarantees.
use Rattle.std.specs.Prelude.{◌≡◌, ℕ, ◌+◌, ◌*◌, ◌^◌, ◌<◌, ◌≤◌, ◌==◌, ◌⊎◌, Bool, true, false, List, [], ◌∷◌, ◌++◌}
use Rattle.std.specs.Prelude.{length}
use Rattle.std.specs.Prelude.{All, Contains, map, slice_index_or, Option, Some, None, Result, Ok, Err, nat_eq}
use Rattle.std.specs.Prelude.{if◌then◌else◌}
use Rattle.std.specs.declared.io.Error.{Error}
use Rattle.std.specs.Global.{Vec}
use Rattle.std.specs.List.{between, IsDistinct, list_any}
use Rattle.sha2.specs.Sha256.{sha256}
use Rattle.sha2.specs.Hashers.{Holds256}
use Rattle.sha2.specs.declared.Sha256.{Sha256}
use Rattle.rs_field.specs.declared.code.error.Error.{Error as CodeError}
use Rattle.rs_field.specs.code.Column.{Shard, AreShards, shard_at}
use Rattle.rs_field.specs.code.Code.{AreRecovery}
use Rattle.rs_field.specs.code.Given.{Shards}
use Rattle.rs_field.specs.code.OneCall.{Items, OneDecodeAnswers, default_of}
use Rattle.rs_field.specs.code.Pieces.{IsStrip}
use Rattle.rs_field.specs.code.RoundTrip.{AreLeft}
use Rattle.rs_volumes.specs.declared.coding_error.CodingError.{CodingError}
use Rattle.rs_volumes.specs.declared.coding_error.CodingError.TheVariants as errors
use Rattle.rs_volumes.specs.declared.creating.Shape.{Shape}
use Rattle.rs_volumes.specs.declared.restoring.Plan.{Plan}
use Rattle.rs_volumes.specs.Failing.{FailsToRead, FailsToWrite}

-- ---- digests

-- the digest with index i, in digests of 32 bytes each, is the SHA-256 of a block
abbrev pub HasDigest : List ℕ → ℕ → Shard → Type 0
HasDigest digests i block = between (32 * i) (32 * i + 32) digests ≡ sha256 block

-- each requested block was written, and what was written has the digest of the block
pub record AreRestored (wanted : List Bool) (digests : List ℕ) (before after : Shards) : Type 0 where
  pub each : (i : ℕ) → i < length wanted → slice_index_or wanted i false ≡ true
      → (block : Shard) × HasDigest digests i block × (before i ≡ Some [] → after i ≡ Some block)

-- ---- original blocks

-- the blocks with the numbers of a list are known, where block n has the index `first` + n, and no number is in the
-- list twice
pub record AreKnown (known : Shards) (first : ℕ) (blocks : List Shard) (numbers : List ℕ) : Type 0 where
  pub each : All (λ n. (n < length blocks) × (known (first + n) ≡ Some (shard_at blocks n))) numbers
  pub once : IsDistinct nat_eq numbers

-- a plan reads known blocks of one set: of k original blocks and their r recovery blocks
pub record ReadsSet (shape : Shape) (plan : Plan) (known : Shards) (originals recovery : List Shard) : Type 0 where
  pub shards : AreShards shape.original_count shape.block_bytes originals
  pub coded : AreRecovery (default_of shape.original_count shape.recovery_count shape.block_bytes) originals recovery
  pub originals_known : AreKnown known 0 originals plan.originals.items
  pub recovery_known : AreKnown known shape.original_count recovery plan.recovery.items

-- each requested block that is read, or can be restored since recovery blocks are read, was written as it was
pub record AreOriginals (plan : Plan) (originals : List Shard) (before after : Shards) : Type 0 where
  pub each : (i : ℕ) → slice_index_or plan.wanted.items i false ≡ true
      → (list_any (nat_eq i) plan.originals.items ≡ true) ⊎ (0 < length plan.recovery.items)
      → before i ≡ Some [] → after i ≡ Some (shard_at originals i)

-- ---- pieces of blocks

-- pieces with the numbers of their blocks
abbrev pub items_of : List (ℕ × Vec ℕ) → Items
items_of pieces = map (λ piece. (piece.0, piece.1.items)) pieces

-- for each number of a list there is a piece, from byte `start` on, up to but without byte `end`; if block n is known,
-- with the index `first` + n, its piece is a piece of the known block
pub record AreRead (first : ℕ) (numbers : List ℕ) (start end : ℕ) (known : Shards) (pieces : List (ℕ × Vec ℕ)) : Type 0
  where
    pub numbers_are : map (λ piece. piece.0) pieces ≡ numbers
    pub each : All (λ piece. (block : Shard) → known (first + piece.0) ≡ Some block
        → piece.1.items ≡ between start end block) pieces

-- the bytes of an optional piece
abbrev pub bytes_of : Option Shard → Shard
bytes_of None = []
bytes_of (Some piece) = piece

-- the bytes of all pieces with this number, one after another
unfoldable pub piece_of : ℕ → Items → Shard
piece_of i [] = []
piece_of i (item ∷ items) = (if i == item.0 then item.1 else []) ++ piece_of i items

-- `held i` was written of block i before, and `after i` afterwards: each requested block got this piece
abbrev pub Gets : List Bool → (ℕ → Shard) → (ℕ → Shard) → (ℕ → Shard) → Type 0
Gets wanted piece held after = (i : ℕ) → slice_index_or wanted i false ≡ true → after i ≡ held i ++ piece i

-- if the pieces that were read are pieces of a set, each requested block that was read or can be restored got its piece
abbrev pub PutsBack : Shape → List Bool → Items → Items → (ℕ → Shard) → (ℕ → Shard) → Type 0
PutsBack shape wanted read received held after =
    (size : ℕ) (message all : List Shard) → AreShards shape.original_count size message
    → AreRecovery (default_of shape.original_count shape.recovery_count size) message all
    → AreLeft message read → AreLeft all received
    → (i : ℕ) → slice_index_or wanted i false ≡ true
    → (list_any (λ item. nat_eq i item.0) read ≡ true) ⊎ (0 < length received)
    → after i ≡ held i ++ shard_at message i

-- ---- errors

-- one of these numbers, counted from `first` on, is that of block i
abbrev pub Names : ℕ → List ℕ → ℕ → Type 0
Names first numbers i = (n : ℕ) × Contains numbers n × (i ≡ first + n)

-- the code fails with an error for some pieces of the blocks of a plan, which has recovery blocks
pub record FailsToDecode (shape : Shape) (plan : Plan) (known : Shards) (e : CodeError) : Type 0 where
  pub start : ℕ
  pub end : ℕ
  pub read : List (ℕ × Vec ℕ)
  pub received : List (ℕ × Vec ℕ)
  pub order : start < end
  pub strip : IsStrip start end shape.block_bytes
  pub are_read : AreRead 0 plan.originals.items start end known read
  pub are_received : AreRead shape.original_count plan.recovery.items start end known received
  pub some : 0 < length received
  pub answers : OneDecodeAnswers shape.original_count shape.recovery_count (items_of read) (items_of received) (Err e)

-- what was written of block i is not a block with its digest
abbrev pub WrongDigest : List ℕ → Option Shard → Option Shard → ℕ → Type 0
WrongDigest digests before after i =
    before ≡ Some [] → (bytes : Shard) × (after ≡ Some bytes) × (HasDigest digests i bytes → ⊥)

-- a restore may fail with this error
abbrev pub RestoringFails : Shape → Plan → List ℕ → (Option Shard → ℕ → Error → Type 0)
    → (Option Shard → ℕ → Error → Type 0) → Shards → Shards → Shards → CodingError → Type 0
RestoringFails shape plan digests reads writes known before after errors.Memory = Unit {0}
RestoringFails shape plan digests reads writes known before after (errors.Read i e) =
    (Names 0 plan.originals.items i ⊎ Names shape.original_count plan.recovery.items i)
    × FailsToRead reads shape.block_bytes (known i) e
RestoringFails shape plan digests reads writes known before after (errors.Write i e) =
    (slice_index_or plan.wanted.items i false ≡ true) × FailsToWrite writes (before i) e
RestoringFails shape plan digests reads writes known before after (errors.Code e) = FailsToDecode shape plan known e
RestoringFails shape plan digests reads writes known before after (errors.Missing n) =
    Contains plan.recovery.items n × (2 ^ 64 ≤ shape.original_count + n)
RestoringFails shape plan digests reads writes known before after (errors.NotFound i) = ⊥
RestoringFails shape plan digests reads writes known before after (errors.Digest i) =
    (slice_index_or plan.wanted.items i false ≡ true) × WrongDigest digests (before i) (after i) i

-- a restore wrote all pieces: it succeeded, or a digest differs
abbrev pub WritesAll : Result (Unit {0}) CodingError → Type 0
WritesAll (Ok done) = Unit {0}
WritesAll (Err errors.Memory) = ⊥
WritesAll (Err (errors.Read i e)) = ⊥
WritesAll (Err (errors.Write i e)) = ⊥
WritesAll (Err (errors.Code e)) = ⊥
WritesAll (Err (errors.Missing n)) = ⊥
WritesAll (Err (errors.NotFound i)) = ⊥
WritesAll (Err (errors.Digest i)) = Unit {0}

-- the pieces of blocks with these numbers, counted from `first` on, up to byte `end`, were not read because of this
-- error
abbrev pub NumbersFail : (Option Shard → ℕ → Error → Type 0) → ℕ → List ℕ → ℕ → Shards → CodingError → Type 0
NumbersFail may_fail first numbers end known errors.Memory = Unit {0}
NumbersFail may_fail first numbers end known (errors.Read i e) = Names first numbers i × may_fail (known i) end e
NumbersFail may_fail first numbers end known (errors.Write i e) = ⊥
NumbersFail may_fail first numbers end known (errors.Code e) = ⊥
NumbersFail may_fail first numbers end known (errors.Missing n) =
    Contains numbers n × (n < 2 ^ 64) × (2 ^ 64 ≤ first + n)
NumbersFail may_fail first numbers end known (errors.NotFound i) = ⊥
NumbersFail may_fail first numbers end known (errors.Digest i) = ⊥

-- a piece of each requested block was not written because of this error
abbrev pub StripFails : Shape → List Bool → Items → Items → (Option Shard → ℕ → Error → Type 0) → Shards
    → CodingError → Type 0
StripFails shape wanted read received writes before errors.Memory = Unit {0}
StripFails shape wanted read received writes before (errors.Read i e) = ⊥
StripFails shape wanted read received writes before (errors.Write i e) =
    (slice_index_or wanted i false ≡ true) × FailsToWrite writes (before i) e
StripFails shape wanted read received writes before (errors.Code e) =
    (0 < length received)
    × OneDecodeAnswers shape.original_count shape.recovery_count read received (Err e)
StripFails shape wanted read received writes before (errors.Missing n) = ⊥
StripFails shape wanted read received writes before (errors.NotFound i) = ⊥
StripFails shape wanted read received writes before (errors.Digest i) = ⊥

-- the hasher of a requested block does not give its digest
abbrev pub DigestFails : List Bool → List ℕ → List Sha256 → CodingError → Type 0
DigestFails wanted digests hashers errors.Memory = ⊥
DigestFails wanted digests hashers (errors.Read i e) = ⊥
DigestFails wanted digests hashers (errors.Write i e) = ⊥
DigestFails wanted digests hashers (errors.Code e) = ⊥
DigestFails wanted digests hashers (errors.Missing n) = ⊥
DigestFails wanted digests hashers (errors.NotFound i) = ⊥
DigestFails wanted digests hashers (errors.Digest i) =
    (i < length wanted) × (slice_index_or wanted i false ≡ true)
    × ((d : Sha256) (bytes : Shard) → Holds256 (slice_index_or hashers i d) bytes → HasDigest digests i bytes → ⊥)
