-- Where the bytes of the files lie in the original blocks.
use Rattle.std.specs.Prelude.{◌≡◌, ℕ, zero, suc, ◌+◌, ◌-◌, ◌*◌, ◌/◌, ◌<◌, ◌≤◌, ◌==◌, ◌^◌, nat_le, not, max, min}
use Rattle.std.specs.Prelude.{List, [], ◌∷◌, ◌++◌, length, map, get_or, Result, Ok, Err, if◌then◌else◌}
use Rattle.std.specs.List.{between, concat, flat_map}
use Rattle.rs_field.specs.code.Column.{Shard, shard_at}
use Rattle.rs_volumes.specs.declared.fault.Fault.{Fault}
use Rattle.rs_volumes.specs.declared.fault.Fault.TheVariants.{BlockSize, Length}
use Rattle.rs_volumes.specs.declared.placement.Place.{Place}
use Rattle.rs_volumes.specs.Description.{SetEntry, FileSet}
use Rattle.rs_volumes.specs.Data.{blocks_of, round_up, end_after, start_of, unit_of, data_of}
use Rattle.rs_volumes.specs.Sound.{allows_block}

-- the place of the bytes of a file in a block, where the file lies in the data from `start` up to but without `end`
unfoldable pub place_in : ℕ → ℕ → ℕ → ℕ → ℕ → Place
place_in size file start end block =
    let first = block * size in
    let from = max start first in
    record {
      block = block;
      at = from - first;
      file = file;
      offset = from - start;
      bytes = min end (first + size) - from;
    }

-- the places of a file in n blocks, of which the first one has the index `first`
unfoldable pub run_places : ℕ → ℕ → ℕ → ℕ → ℕ → ℕ → List Place
run_places size file start end first zero = []
run_places size file start end first (suc n) =
    run_places size file start end first n ++ place_in size file start end (first + n) ∷ []

-- the places of a file that lies in the data from `start` up to but without `end`
abbrev pub file_places : ℕ → ℕ → ℕ → ℕ → List Place
file_places size file start end =
    run_places size file start end (start / size) (blocks_of size end - start / size)

-- the places of a file with this index and this many bytes, if the file before it ends at `at`; a file without bytes
-- has none
unfoldable pub entry_places : ℕ → ℕ → ℕ → ℕ → ℕ → List Place
entry_places unit size at index bytes =
    if bytes == 0 then [] else file_places size index (round_up unit at) (round_up unit at + bytes)

-- the places of files, of which the first one has this index, if the file before them ends at `at`
unfoldable pub set_places : ℕ → ℕ → ℕ → ℕ → List SetEntry → List Place
set_places unit size at index [] = []
set_places unit size at index (entry ∷ entries) =
    entry_places unit size at index entry.size
    ++ set_places unit size (end_after unit at entry.size) (suc index) entries

-- the places of a set, or the fault that forbids them
unfoldable pub places_in : FileSet → Result (List Place) Fault
places_in s =
    if not (allows_block s.block_bytes) then Err BlockSize
    else if nat_le (2 ^ 62) (data_of s) then Err Length
    else Ok (set_places (unit_of s) s.block_bytes 0 0 s.entries)

-- the bytes of the files at a place, where the files have these contents
abbrev pub bytes_at : List Shard → Place → Shard
bytes_at contents place = between place.offset (place.offset + place.bytes) (shard_at contents place.file)

-- places cover files exactly once and in order: whatever the files hold, the bytes at the places, one place after
-- another, are the contents of the files, one file after another
abbrev pub Cover : List SetEntry → List Place → Type 0
Cover entries places =
    (contents : List Shard) → map (λ bytes. length bytes) contents ≡ map (λ entry. entry.size) entries
    → flat_map (bytes_at contents) places ≡ concat contents

-- the position of a place in the data
abbrev pub position : ℕ → Place → ℕ
position size place = place.block * size + place.at

-- a place lies in its block, which is one of the blocks of the data, and its position in the data is that of its bytes
-- of the file
pub record IsPlaced (s : FileSet) (place : Place) : Type 0 where
  pub file : place.file < length s.entries
  pub some : 0 < place.bytes
  pub inside : (d : SetEntry) → place.offset + place.bytes ≤ (get_or s.entries place.file d).size
  pub within : place.at + place.bytes ≤ s.block_bytes
  pub counted : place.block < blocks_of s.block_bytes (data_of s)
  pub position_is : position s.block_bytes place
      ≡ start_of (unit_of s) 0 s.entries place.file + place.offset

-- places lie one after another, from this position on, and none overlaps the next one
unfoldable pub Rises : ℕ → ℕ → List Place → Type 0
Rises size from [] = Unit {0}
Rises size from (place ∷ places) =
    (from ≤ position size place) × Rises size (position size place + place.bytes) places
