-- The head of a record, its one spelling in bytes, and how it is read.
use Rattle.std.specs.Prelude.{◌≡◌, ℕ, ◌<◌, ◌^◌, List, [], ◌∷◌, ◌++◌, length, Result, Ok, Err, take, drop, if◌then◌else◌}
use Rattle.std.specs.Int.{w32, w64, to_le_bytes}
use Rattle.std.specs.Str.{bytes_eq}
use Rattle.sha2.specs.Sha256.{sha256}
use Rattle.rs_volumes.specs.declared.fault.Fault.{Fault}
use Rattle.rs_volumes.specs.declared.fault.Fault.TheVariants.{Check}
use Rattle.rs_volumes.specs.declared.record.RecordHead.{RecordHead}
use Rattle.rs_volumes.specs.Reading.{◌>>=◌, number_at, magic_at}

-- the head of a record: what the body is, its index, the number of its bytes, and the digest of the description
pub record Head : Type 0 where
  pub kind : ℕ
  pub index : ℕ
  pub body_bytes : ℕ
  pub set : List ℕ

-- what the program's head represents
abbrev pub head_of : RecordHead → Head
head_of h = record { kind = h.kind; index = h.index; body_bytes = h.body_bytes; set = h.set }

-- the magic number: 89 52 53 56 32 0D 0A 1A
abbrev pub record_magic : List ℕ
record_magic = 0x89 ∷ 0x52 ∷ 0x53 ∷ 0x56 ∷ 0x32 ∷ 0x0D ∷ 0x0A ∷ 0x1A ∷ []

-- the spelling of a head before its check: magic number, kind, index, the number of bytes of the body, and the set
abbrev pub front_spelling : Head → List ℕ
front_spelling h = record_magic
    ++ (to_le_bytes w32 h.kind ++ (to_le_bytes w32 h.index ++ (to_le_bytes w64 h.body_bytes ++ h.set)))

-- the check of bytes: the first 8 bytes of their SHA-256
unfoldable pub check_of : List ℕ → List ℕ
check_of bytes = take 8 (sha256 bytes)

-- the spelling of a head: what precedes its check, and the check of these bytes
abbrev pub head_spelling : Head → List ℕ
head_spelling h = front_spelling h ++ check_of (front_spelling h)

-- the numbers of a head fit their fields, and the digest has 32 bytes
pub record HeadFits (h : Head) : Type 0 where
  pub kind : h.kind < 2 ^ 32
  pub index : h.index < 2 ^ 32
  pub body_bytes : h.body_bytes < 2 ^ 64
  pub set : length h.set ≡ 32

-- the head whose bytes before the check are all of the bytes, or the first fault
unfoldable pub front_in : List ℕ → Result Head Fault
front_in bytes = do
  kind ← magic_at record_magic bytes
  index ← number_at w32 kind
  size ← number_at w32 index.1
  set ← number_at w64 size.1
  Ok (record { kind = index.0; index = size.0; body_bytes = set.0; set = set.1 })

-- the head that takes all of the bytes, or the first fault
unfoldable pub head_in : List ℕ → Result Head Fault
head_in bytes = do
  head ← front_in (take 56 bytes)
  if bytes_eq (drop 56 bytes) (check_of (take 56 bytes)) then Ok head else Err Check
