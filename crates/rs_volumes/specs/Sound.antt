-- Which descriptions of version 2 are sound, and the first fault of one that is not.
use Rattle.std.specs.Prelude.{◌≡◌, ℕ, ◌%◌, ◌^◌, Bool, true, false, ◌&&◌, ◌||◌, not, ◌==◌, nat_lt}
use Rattle.std.specs.Prelude.{nat_le, List, [], ◌∷◌, length, replicate, Result, Ok, Err, if◌then◌else◌}
use Rattle.std.specs.Str.{bytes_eq}
use Rattle.std.specs.List.{list_any}
use Rattle.rs_field.specs.code.Counts.{default_rate, supports}
use Rattle.rs_volumes.specs.declared.description.Kind.{Kind}
use Rattle.rs_volumes.specs.declared.description.Kind.TheVariants.{File, Link, Folder}
use Rattle.rs_volumes.specs.declared.fault.Fault.{Fault}
use Rattle.rs_volumes.specs.declared.fault.Fault.TheVariants as faults
use Rattle.rs_volumes.specs.Description.{SetEntry, SetField, FileSet, Fits}
use Rattle.rs_volumes.specs.Reading.{◌>>=◌, description_in}
use Rattle.rs_volumes.specs.Names.{has_parts, is_before, is_folder_of}
use Rattle.rs_volumes.specs.Data.{blocks_of, round_up, end_of}

-- whether these counts of blocks are allowed: the code supports them, or there is no block at all
unfoldable pub allows_counts : ℕ → ℕ → Bool
allows_counts k r = supports default_rate k r || (k == 0 && r == 0)

-- whether this size of a block is allowed: even, above zero, and at most 2^40 bytes
unfoldable pub allows_block : ℕ → Bool
allows_block block = nat_lt 0 block && (block % 2 == 0 && nat_le block (2 ^ 40))

-- whether an entry of this kind is a file
unfoldable pub is_file : Kind → Bool
is_file File = true
is_file Link = false
is_file Folder = false

-- whether an entry of this kind may have this target: that of a link is not empty and has no zero byte
unfoldable pub allows_target : Kind → List ℕ → Bool
allows_target File target = length target == 0
allows_target Link target = not (length target == 0) && not (list_any (λ b. b == 0) target)
allows_target Folder target = length target == 0

-- whether a reader may skip the fields that it does not know: their kinds are below 2^31
unfoldable pub known_fields : List SetField → Bool
known_fields [] = true
known_fields (f ∷ fs) = nat_lt f.kind (2 ^ 31) && known_fields fs

-- success, or the first fault of an entry alone
unfoldable pub entry_outcome : SetEntry → Result (Unit {0}) Fault
entry_outcome e =
    if nat_le 4096 e.mode then Err faults.Mode
    else if nat_le 1000000000 e.nanoseconds then Err faults.Nanoseconds
    else if nat_le (2 ^ 62) e.size then Err faults.Length
    else if not (is_file e.kind) && not (e.size == 0) then Err faults.Size
    else if not (allows_target e.kind e.target) then Err faults.Target
    else if not (is_file e.kind) && not (bytes_eq e.digest (replicate 32 0)) then Err faults.FileDigest
    else if not (has_parts [] e.name) then Err faults.Name
    else Ok tt

-- success, or the first fault of the entries that follow an entry with this name
unfoldable pub entries_outcome : List ℕ → List SetEntry → Result (Unit {0}) Fault
entries_outcome previous [] = Ok tt
entries_outcome previous (e ∷ es) =
    entry_outcome e >>= λ _.
    if not (is_before previous e.name) then Err faults.Order
    else if is_folder_of previous e.name then Err faults.Inside
    else entries_outcome e.name es

-- whether a block of this size is larger than this many bytes of data: larger than 4096 bytes, and than the smallest
-- multiple of 4096 bytes that holds the data
unfoldable pub is_large : ℕ → ℕ → Bool
is_large block bytes = nat_lt 4096 block && nat_lt (round_up 4096 bytes) block

-- success, or the first fault of the data of entries: it is too long, the blocks are larger than the data, or their
-- number is another one
unfoldable pub data_outcome : ℕ → ℕ → List SetEntry → Result (Unit {0}) Fault
data_outcome block count entries =
    let bytes = end_of 64 0 entries in
    if nat_le (2 ^ 62) bytes then Err faults.Length
    else if is_large block bytes then Err faults.LargeBlock
    else if blocks_of block bytes == count then Ok tt else Err faults.Blocks

-- success, or the first fault of a set
unfoldable pub set_outcome : FileSet → Result (Unit {0}) Fault
set_outcome s =
    if not (allows_block s.block_bytes) then Err faults.BlockSize
    else if not (allows_counts s.original_count s.recovery_count) then Err faults.Counts
    else if s.volumes == 0 then Err faults.Volumes
    else if not (known_fields s.fields) then Err faults.Field
    else entries_outcome [] s.entries >>= λ _.
    data_outcome s.block_bytes s.original_count s.entries

-- a set has a description of version 2, and its numbers fit each other
pub record IsSound (s : FileSet) : Type 0 where
  pub fits : Fits s
  pub outcome : set_outcome s ≡ Ok tt

-- the sound set that bytes describe, or the first fault
unfoldable pub reading : List ℕ → Result FileSet Fault
reading bytes = description_in bytes >>= λ s. set_outcome s >>= λ _. Ok s
