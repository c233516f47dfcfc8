-- The files of a set, laid end to end and cut into blocks.
use Rattle.std.specs.Prelude.{◌≡◌, ℕ, zero, suc, ◌+◌, ◌-◌, ◌<◌, ◌==◌, ◌&&◌, nat_le, nat_lt, Bool, List, [], ◌∷◌, ◌++◌}
use Rattle.std.specs.Prelude.{length, map, get_or, count_by, take, drop, replicate, if◌then◌else◌}
use Rattle.std.specs.List.{between, flat_map}
use Rattle.rs_field.specs.code.Column.{Shard, shard_at}
use Rattle.rs_volumes.specs.declared.placement.Place.{Place}
use Rattle.rs_volumes.specs.Description.{SetEntry, FileSet}
use Rattle.rs_volumes.specs.Data.{blocks_of, round_up, unit_of, data_of}

-- files have the lengths of entries: those that are links or folders have no bytes
abbrev pub AreFilesOf : List SetEntry → List Shard → Type 0
AreFilesOf entries files = map (λ bytes. length bytes) files ≡ map (λ entry. entry.size) entries

-- the data of files from byte `at` on, where the file before them ends: each file begins at the next multiple of the
-- unit, and the bytes before it are zeros; a file without bytes does not move the next file
unfoldable pub data_after : ℕ → ℕ → List Shard → Shard
data_after unit at [] = []
data_after unit at (file ∷ files) =
    if length file == 0 then data_after unit at files
    else replicate (round_up unit at - at) 0 ++ (file ++ data_after unit (round_up unit at + length file) files)

-- data cut into n blocks of this size; if the data is too short, zeros follow it
unfoldable pub cut_blocks : ℕ → ℕ → Shard → List Shard
cut_blocks size zero bytes = []
cut_blocks size (suc n) bytes = take size (bytes ++ replicate size 0) ∷ cut_blocks size n (drop size bytes)

-- the original blocks of files: the files are laid end to end, and cut into as many blocks as the data has
unfoldable pub laid : FileSet → List Shard → List Shard
laid s files = cut_blocks s.block_bytes (blocks_of s.block_bytes (data_of s)) (data_after (unit_of s) 0 files)

-- the bytes of blocks at a place
abbrev pub bytes_in : List Shard → Place → Shard
bytes_in blocks place = between place.at (place.at + place.bytes) (shard_at blocks place.block)

-- the bytes of blocks at those places that belong to the file with index i, one place after another
abbrev pub file_in : List Place → List Shard → ℕ → Shard
file_in places blocks i = flat_map (λ place. if place.file == i then bytes_in blocks place else []) places

-- whether a byte of a file is at a place
abbrev pub is_at : ℕ → ℕ → Place → Bool
is_at file offset place =
    place.file == file && (nat_le place.offset offset && nat_lt offset (place.offset + place.bytes))

-- each byte of each file is at exactly one of these places
abbrev pub EachByteOnce : List SetEntry → List Place → Type 0
EachByteOnce entries places =
    (file offset : ℕ) (d : SetEntry) → file < length entries → offset < (get_or entries file d).size
    → count_by (is_at file offset) places ≡ 1

-- in the blocks of files, the bytes at the places of each file are those of the file, whatever the files hold
abbrev pub HoldFiles : FileSet → List Place → Type 0
HoldFiles s places =
    (files : List Shard) → AreFilesOf s.entries files → (i : ℕ) → i < length files
    → file_in places (laid s files) i ≡ shard_at files i
