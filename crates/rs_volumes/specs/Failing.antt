-- Why a source does not read a block, and why a sink does not write one.
use Rattle.std.specs.Prelude.{◌≡◌, ℕ, ◌+◌, ◌<◌, ◌≤◌, [], Option, Some, length}
use Rattle.std.specs.declared.io.Error.{Error}
use Rattle.rs_field.specs.code.Column.{Shard}
use Rattle.rs_field.specs.code.Given.{Shards}
use Rattle.rs_volumes.specs.declared.coding_error.CodingError.{CodingError}
use Rattle.rs_volumes.specs.declared.coding_error.CodingError.TheVariants as errors

-- a block of this many bytes, which may be known, fails to be read up to some byte
abbrev pub FailsToRead : (Option Shard → ℕ → Error → Type 0) → ℕ → Option Shard → Error → Type 0
FailsToRead may_fail size block e = (end : ℕ) × (end ≤ size) × may_fail block end e

-- the next piece of a block fails to be written; if nothing of the block was written at first, it is known what was
-- written of it before this piece
pub record FailsToWrite (may_fail : Option Shard → ℕ → Error → Type 0) (first : Option Shard) (e : Error) : Type 0 where
  pub held : Option Shard
  pub start : ℕ
  pub next : first ≡ Some [] → (bytes : Shard) × (held ≡ Some bytes) × (start ≡ length bytes)
  pub fails : may_fail held start e

-- pieces of the blocks below `count`, up to byte `end`, were not read because of this error
abbrev pub ReadingFails : (Option Shard → ℕ → Error → Type 0) → ℕ → ℕ → Shards → CodingError → Type 0
ReadingFails may_fail count end known errors.Memory = Unit {0}
ReadingFails may_fail count end known (errors.Read i e) = (i < count) × may_fail (known i) end e
ReadingFails may_fail count end known (errors.Write i e) = ⊥
ReadingFails may_fail count end known (errors.Code e) = ⊥
ReadingFails may_fail count end known (errors.Missing n) = ⊥
ReadingFails may_fail count end known (errors.NotFound i) = ⊥
ReadingFails may_fail count end known (errors.Digest i) = ⊥

-- pieces of `count` blocks from the block `first` on, which begin at byte `start`, were not written because of this
-- error
abbrev pub WritingFails : (Option Shard → ℕ → Error → Type 0) → ℕ → ℕ → ℕ → Shards → CodingError → Type 0
WritingFails may_fail first count start before errors.Memory = ⊥
WritingFails may_fail first count start before (errors.Read i e) = ⊥
WritingFails may_fail first count start before (errors.Write i e) =
    (first ≤ i) × (i < first + count) × may_fail (before i) start e
WritingFails may_fail first count start before (errors.Code e) = ⊥
WritingFails may_fail first count start before (errors.Missing n) = ⊥
WritingFails may_fail first count start before (errors.NotFound i) = ⊥
WritingFails may_fail first count start before (errors.Digest i) = ⊥

-- a piece of a block, one that may be written, was not written because of this error
abbrev pub PuttingFails : (Option Shard → ℕ → Error → Type 0) → (ℕ → Type 0) → Shards → CodingError → Type 0
PuttingFails may_fail MayBe before errors.Memory = Unit {0}
PuttingFails may_fail MayBe before (errors.Read i e) = ⊥
PuttingFails may_fail MayBe before (errors.Write i e) = MayBe i × FailsToWrite may_fail (before i) e
PuttingFails may_fail MayBe before (errors.Code e) = ⊥
PuttingFails may_fail MayBe before (errors.Missing n) = ⊥
PuttingFails may_fail MayBe before (errors.NotFound i) = ⊥
PuttingFails may_fail MayBe before (errors.Digest i) = ⊥
