-- The part of a description in the body of a record, its one spelling in bytes, and how it is read.
use Rattle.std.specs.Prelude.{◌≡◌, ℕ, ◌-◌, ◌*◌, ◌<◌, ◌^◌, ◌==◌, nat_lt, List, ◌++◌, length, Result, Ok, Err}
use Rattle.std.specs.Prelude.{if◌then◌else◌}
use Rattle.std.specs.Int.{w64, to_le_bytes}
use Rattle.std.specs.Str.{bytes_eq}
use Rattle.sha2.specs.Sha256.{sha256}
use Rattle.rs_volumes.specs.declared.fault.Fault.{Fault}
use Rattle.rs_volumes.specs.declared.fault.Fault.TheVariants.{Short, Trailing, Check}
use Rattle.rs_volumes.specs.Reading.{◌>>=◌, number_at, taken_at}

-- a part: the number of bytes of the whole description, and the bytes of the description in this part
pub record DescriptionPart : Type 0 where
  pub total : ℕ
  pub bytes : List ℕ

-- the part with this number of bytes of the description, and these bytes
abbrev pub part : ℕ → List ℕ → DescriptionPart
part total bytes = record { total = total; bytes = bytes }

-- the number of bytes of the description in its part with this index: 4096, or fewer in the last part
unfoldable pub length_at : ℕ → ℕ → ℕ
length_at index total = if nat_lt (total - 4096 * index) 4096 then total - 4096 * index else 4096

-- the spelling of a part after its digest: the number of bytes of the description, and the bytes of the part
abbrev pub rest_spelling : DescriptionPart → List ℕ
rest_spelling p = to_le_bytes w64 p.total ++ p.bytes

-- the spelling of a part: the digest of the bytes after it, and these bytes
abbrev pub part_spelling : DescriptionPart → List ℕ
part_spelling p = sha256 (rest_spelling p) ++ rest_spelling p

-- the number of bytes fits its field, and the part with this index has at least one byte, and as many as it should have
pub record PartFits (index : ℕ) (p : DescriptionPart) : Type 0 where
  pub total : p.total < 2 ^ 64
  pub some : 0 < length p.bytes
  pub same : length p.bytes ≡ length_at index p.total

-- the part with this index whose bytes after the digest are all of the bytes, or the first fault
unfoldable pub rest_in : ℕ → List ℕ → Result DescriptionPart Fault
rest_in index rest =
    number_at w64 rest >>= λ total.
    if length total.1 == 0 then Err Short
    else if nat_lt (length total.1) (length_at index total.0) then Err Short
    else if nat_lt (length_at index total.0) (length total.1) then Err Trailing
    else Ok (part total.0 total.1)

-- the part with this index that takes all of the bytes, or the first fault
unfoldable pub part_in : ℕ → List ℕ → Result DescriptionPart Fault
part_in index body = do
  digest ← taken_at 32 body
  if bytes_eq digest.0 (sha256 digest.1) then rest_in index digest.1 else Err Check
