-- Where the files of a set begin and end in its data.
use Rattle.std.specs.Prelude.{ℕ, ◌+◌, ◌-◌, ◌*◌, ◌/◌, ◌^◌, ◌==◌, nat_lt, List, [], ◌∷◌, Option, None, Some}
use Rattle.std.specs.Prelude.{zero, suc, if◌then◌else◌}
use Rattle.rs_volumes.specs.declared.description.Version.{Version}
use Rattle.rs_volumes.specs.declared.description.Version.TheVariants.{First, Second}
use Rattle.rs_volumes.specs.Description.{SetEntry, FileSet}

-- the number of blocks of this many bytes; a last block that is not full counts
unfoldable pub blocks_of : ℕ → ℕ → ℕ
blocks_of block size = (size + (block - 1)) / block

-- the smallest multiple of a unit that is at least `at`
unfoldable pub round_up : ℕ → ℕ → ℕ
round_up unit at = blocks_of unit at * unit

-- the end in the data of a file of this size, if the file before ends at `at`: the file begins at the next multiple of
-- the unit; a file without bytes does not move the next file
unfoldable pub end_after : ℕ → ℕ → ℕ → ℕ
end_after unit at size = if size == 0 then at else round_up unit at + size

-- the end of the last of some files, if the file before them ends at `at`
unfoldable pub end_of : ℕ → ℕ → List SetEntry → ℕ
end_of unit at [] = at
end_of unit at (entry ∷ entries) = end_of unit (end_after unit at entry.size) entries

-- the first byte in the data of the file with index i, if the file before all of them ends at `at`
unfoldable pub start_of : ℕ → ℕ → List SetEntry → ℕ → ℕ
start_of unit at [] i = round_up unit at
start_of unit at (entry ∷ entries) zero = round_up unit at
start_of unit at (entry ∷ entries) (suc i) = start_of unit (end_after unit at entry.size) entries i

-- a number of bytes, if it is below 2^62
unfoldable pub below_limit : ℕ → Option ℕ
below_limit n = if nat_lt n (2 ^ 62) then Some n else None

-- the number of bytes at whose multiples files begin: in version 1 that of a block, and in version 2 64
unfoldable pub unit_in : Version → ℕ → ℕ
unit_in First block = block
unit_in Second block = 64

-- the number of bytes at whose multiples the files of a set begin
unfoldable pub unit_of : FileSet → ℕ
unit_of s = unit_in s.version s.block_bytes

-- the number of bytes of the data of a set
unfoldable pub data_of : FileSet → ℕ
data_of s = end_of (unit_of s) 0 s.entries
