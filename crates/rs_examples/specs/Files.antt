-- Files in memory, and what is left of the blocks that hold them.
use Rattle.std.specs.Prelude.{◌≡◌, ℕ, ◌+◌, ◌<◌, ◌≤◌, List, length, map, All}
use Rattle.std.specs.Global.{Vec}
use Rattle.reed_solomon_simd.specs.Column.{Shard, shard_at}
use Rattle.rs_volumes.specs.declared.placement.Place.{Place}
use Rattle.rs_volumes.specs.declared.fault.ReadError.TheVariants as reads
use Rattle.rs_volumes.specs.Data.{blocks_of, data_of}
use Rattle.rs_volumes.specs.Description.{FileSet}
use Rattle.rs_volumes.specs.Laid.{AreFilesOf, file_in}
use Rattle.rs_examples.specs.declared.file_round_trip.FilesError.{FilesError}
use Rattle.rs_examples.specs.declared.file_round_trip.FilesError.TheVariants as errors
use Rattle.rs_examples.specs.Blocks.{SaysNoMemory}
use Rattle.rs_examples.specs.Losing.{left_below}

-- the bytes of each file
abbrev pub bytes_of : List (Vec ℕ) → List Shard
bytes_of files = map (λ file. file.items) files

-- each place is in one of the blocks, which has all bytes of the place
abbrev pub AreWithin : List Shard → List Place → Type 0
AreWithin blocks places =
    All (λ place. (place.block < length blocks)
    × (place.at + place.bytes ≤ length (shard_at blocks place.block))) places

-- this many files have the bytes of blocks at their places
pub record AreCut (count : ℕ) (places : List Place) (blocks files : List Shard) : Type 0 where
  pub number : length files ≡ count
  pub each : (i : ℕ) → i < count → shard_at files i ≡ file_in places blocks i

-- the set has files with these bytes, k is the number of blocks of its data, and at least k of the k + r blocks are not
-- lost
pub record AreFilesLeft (s : FileSet) (files : List Shard) (lost : List ℕ) : Type 0 where
  pub sizes : AreFilesOf s.entries files
  pub counted : s.original_count ≡ blocks_of s.block_bytes (data_of s)
  pub enough : s.original_count ≤ left_below (s.original_count + s.recovery_count) lost

-- an error of a round trip of files says that memory could not be allocated
abbrev pub LacksMemory : FilesError → Type 0
LacksMemory (errors.Places reads.Memory) = Unit {0}
LacksMemory (errors.Places (reads.Fault f)) = ⊥
LacksMemory (errors.Coding e) = SaysNoMemory e
