-- The head of a volume of version 1, its one spelling in bytes, and how it is read.
use Rattle.std.specs.Prelude.{ℕ, ◌<◌, ◌^◌, List, [], ◌∷◌, ◌++◌, Result, Ok}
use Rattle.std.specs.Int.{w32, w64, to_le_bytes}
use Rattle.rs_volumes.specs.declared.fault.Fault.{Fault}
use Rattle.rs_volumes.specs.declared.fault.Fault.TheVariants.{Version, Reserved}
use Rattle.rs_volumes.specs.declared.first.Head.{Head}
use Rattle.rs_volumes.specs.Reading.{◌>>=◌, number_at, fixed_at, magic_at}

-- a head: the number of bytes of the description, the number of block records, and the digest of the description
pub record VolumeHead : Type 0 where
  pub description_bytes : ℕ
  pub record_count : ℕ
  pub digest : List ℕ

-- what the program's head represents
abbrev pub head_of : Head → VolumeHead
head_of h = record { description_bytes = h.description_bytes; record_count = h.record_count; digest = h.digest }

-- the magic number: 89 52 53 56 0D 0A 1A 0A
abbrev pub magic : List ℕ
magic = 0x89 ∷ 0x52 ∷ 0x53 ∷ 0x56 ∷ 0x0D ∷ 0x0A ∷ 0x1A ∷ 0x0A ∷ []

-- the spelling of a head: magic number, version 1, zero, the two numbers, and the digest
abbrev pub head_spelling : VolumeHead → List ℕ
head_spelling h = magic ++ (to_le_bytes w32 1 ++ (to_le_bytes w32 0
    ++ (to_le_bytes w64 h.description_bytes ++ (to_le_bytes w64 h.record_count ++ h.digest))))

-- the numbers of a head fit their fields
pub record HeadFits (h : VolumeHead) : Type 0 where
  pub description_bytes : h.description_bytes < 2 ^ 64
  pub record_count : h.record_count < 2 ^ 64

-- the head that takes all of the bytes, or the first fault
unfoldable pub head_in : List ℕ → Result VolumeHead Fault
head_in bytes = do
  version ← magic_at magic bytes
  reserved ← fixed_at 1 Version version
  numbers ← fixed_at 0 Reserved reserved
  size ← number_at w64 numbers
  count ← number_at w64 size.1
  Ok (record { description_bytes = size.0; record_count = count.0; digest = count.1 })
