-- Blocks in memory.
use Rattle.std.specs.Prelude.{◌≡◌, ℕ, ◌+◌, ◌≤◌, ◌&&◌, not, nat_lt, nat_eq, List, length, map, slice_get, All, Option}
use Rattle.std.specs.Prelude.{Some}
use Rattle.std.specs.IoError.{error_kind}
use Rattle.std.specs.declared.io.Error.{Error}
use Rattle.std.specs.declared.io.ErrorKind.TheVariants as kinds
use Rattle.std.specs.List.{list_any, IsDistinct}
use Rattle.reed_solomon_simd.specs.declared.Error.TheVariants as code
use Rattle.reed_solomon_simd.specs.Column.{Shard}
use Rattle.reed_solomon_simd.specs.Given.{Shards}
use Rattle.rs_volumes.specs.declared.coding_error.CodingError.{CodingError}
use Rattle.rs_volumes.specs.declared.coding_error.CodingError.TheVariants as errors
use Rattle.rs_volumes.specs.declared.creating.Shape.{Shape}
use Rattle.rs_examples.specs.declared.blocks.Blocks.{Blocks}
use Rattle.rs_examples.specs.Losing.{is_lost, left_from, left_below}

-- the bytes of each block
abbrev pub contents : Blocks → List Shard
contents blocks = map (λ block. block.items) blocks.blocks.items

-- the blocks of a list, by their indexes
abbrev pub blocks_in : List Shard → Shards
blocks_in blocks i = slice_get blocks i

-- a block that has all bytes that are read only fails to be read if memory cannot be allocated
abbrev pub read_lacks_memory : Option Shard → ℕ → Error → Type 0
read_lacks_memory block end e =
    (bytes : Shard) → block ≡ Some bytes → end ≤ length bytes → error_kind e ≡ kinds.OutOfMemory

-- a piece that follows what was written of a block only fails to be written if memory cannot be allocated
abbrev pub write_lacks_memory : Option Shard → ℕ → Error → Type 0
write_lacks_memory block start e =
    (bytes : Shard) → block ≡ Some bytes → start ≡ length bytes → error_kind e ≡ kinds.OutOfMemory

-- an error says that memory could not be allocated
abbrev pub SaysNoMemory : CodingError → Type 0
SaysNoMemory errors.Memory = Unit {0}
SaysNoMemory (errors.Read i e) = error_kind e ≡ kinds.OutOfMemory
SaysNoMemory (errors.Write i e) = error_kind e ≡ kinds.OutOfMemory
SaysNoMemory (errors.Code e) = e ≡ code.OutOfMemory
SaysNoMemory (errors.Missing n) = ⊥
SaysNoMemory (errors.NotFound i) = ⊥
SaysNoMemory (errors.Digest i) = ⊥

-- a list has exactly the numbers n below `count` of blocks that are not lost, where block n has the index `first` + n
pub record ListsLeft (first count : ℕ) (lost numbers : List ℕ) : Type 0 where
  pub each : (n : ℕ) → list_any (nat_eq n) numbers ≡ (nat_lt n count && not (is_lost lost (first + n)))
  pub once : IsDistinct nat_eq numbers
  pub number : length numbers ≡ left_from first count lost

-- there are k original blocks of the block size, and at least k of the k + r blocks are not lost
pub record EnoughLeft (shape : Shape) (originals : List Shard) (lost : List ℕ) : Type 0 where
  pub number : length originals ≡ shape.original_count
  pub sized : All (λ block. length block ≡ shape.block_bytes) originals
  pub enough : shape.original_count ≤ left_below (shape.original_count + shape.recovery_count) lost
