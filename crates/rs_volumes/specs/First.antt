-- Descriptions of version 1: their one spelling in bytes, how they are read, and which of them are sound.
use Rattle.std.specs.Prelude.{◌≡◌, ℕ, ◌+◌, ◌*◌, ◌<◌, ◌^◌, Bool, true, false, ◌&&◌, not, ◌==◌, nat_lt, nat_le}
use Rattle.std.specs.Prelude.{List, [], ◌∷◌, ◌++◌, length, replicate, Result, Ok, Err, if◌then◌else◌}
use Rattle.std.specs.List.{flat_map, AllByRecursion}
use Rattle.std.specs.Int.{w32, w64, to_le_bytes}
use Rattle.std.specs.Str.{is_utf8}
use Rattle.rs_volumes.specs.declared.description.Kind.TheVariants.{File}
use Rattle.rs_volumes.specs.declared.description.Version.TheVariants.{First}
use Rattle.rs_volumes.specs.declared.fault.Fault.{Fault}
use Rattle.rs_volumes.specs.declared.fault.Fault.TheVariants as faults
use Rattle.rs_volumes.specs.Description.{SetEntry, FileSet, OpeningFits, name_spelling, opening_spelling, opening_of}
use Rattle.rs_volumes.specs.Reading.{◌>>=◌, number_at, name_at, opening_at, items_at}
use Rattle.rs_volumes.specs.Names.{has_parts}
use Rattle.rs_volumes.specs.Data.{blocks_of, round_up}
use Rattle.rs_volumes.specs.Sound.{allows_counts, allows_block}

-- ---- the spelling

-- the spelling of a file: length, time, permission bits, and name
abbrev pub first_entry_spelling : SetEntry → List ℕ
first_entry_spelling f = to_le_bytes w64 f.size
    ++ (to_le_bytes w64 f.seconds ++ (to_le_bytes w32 f.mode ++ name_spelling f.name))

-- the spelling of a description: the opening, the files, and the digests
abbrev pub first_spelling : FileSet → List ℕ
first_spelling s = opening_spelling (opening_of s) ++ (flat_map first_entry_spelling s.entries ++ s.digests)

-- the numbers of a file fit their fields, and it has nothing that version 1 does not know
pub record IsFirstEntry (f : SetEntry) : Type 0 where
  pub size : f.size < 2 ^ 64
  pub seconds : f.seconds < 2 ^ 64
  pub mode : f.mode < 2 ^ 32
  pub name : length f.name < 2 ^ 16
  pub kind : f.kind ≡ File
  pub nanoseconds : f.nanoseconds ≡ 0
  pub target : f.target ≡ []
  pub digest : f.digest ≡ replicate 32 0

-- the numbers of a set fit their fields, there is a digest of 32 bytes for each block, and the set has nothing that
-- version 1 does not know
pub record FirstFits (s : FileSet) : Type 0 where
  pub version : s.version ≡ First
  pub opening : OpeningFits (opening_of s)
  pub volumes : s.volumes ≡ 0
  pub fields : s.fields ≡ []
  pub entries : AllByRecursion IsFirstEntry s.entries
  pub digests : length s.digests ≡ 32 * (s.original_count + s.recovery_count)
  pub sums : s.sums ≡ []

-- ---- reading

-- a file at the front, and the bytes after it
unfoldable pub first_entry_at : List ℕ → Result (SetEntry × List ℕ) Fault
first_entry_at bytes = do
  size ← number_at w64 bytes
  seconds ← number_at w64 size.1
  mode ← number_at w32 seconds.1
  name ← name_at mode.1
  Ok (
    record {
      kind = File;
      mode = mode.0;
      size = size.0;
      seconds = seconds.0;
      nanoseconds = 0;
      name = name.0;
      target = [];
      digest = replicate 32 0;
    },
    name.1,
  )

-- this many files at the front, and the bytes after them
abbrev pub first_entries_at : ℕ → List ℕ → Result (List SetEntry × List ℕ) Fault
first_entries_at count bytes = items_at first_entry_at count bytes

-- bytes that are all digests of this many blocks
unfoldable pub digests_in : ℕ → List ℕ → Result (List ℕ) Fault
digests_in blocks bytes =
    if nat_lt (length bytes) (32 * blocks) then Err faults.Short
    else if nat_lt (32 * blocks) (length bytes) then Err faults.Trailing
    else Ok bytes

-- a description that takes all of the bytes
unfoldable pub first_description_in : List ℕ → Result FileSet Fault
first_description_in bytes = do
  opening ← opening_at bytes
  entries ← first_entries_at opening.0.entry_count opening.1
  digests ← digests_in (opening.0.original_count + opening.0.recovery_count) entries.1
  Ok (record {
    version = First;
    block_bytes = opening.0.block_bytes;
    original_count = opening.0.original_count;
    recovery_count = opening.0.recovery_count;
    volumes = 0;
    fields = [];
    entries = entries.0;
    digests = digests;
    sums = [];
  })

-- ---- soundness

-- the number of blocks of all files
unfoldable pub blocks_in : ℕ → List SetEntry → ℕ
blocks_in block [] = 0
blocks_in block (f ∷ fs) = blocks_of block f.size + blocks_in block fs

-- whether a name is allowed: UTF-8, and relative, with parts that may be used
unfoldable pub is_first_name : List ℕ → Bool
is_first_name name = has_parts [] name && is_utf8 name

-- whether a name comes before another one in the order of their bytes
unfoldable pub comes_before : List ℕ → List ℕ → Bool
comes_before [] [] = false
comes_before [] (y ∷ ys) = true
comes_before (x ∷ xs) [] = false
comes_before (x ∷ xs) (y ∷ ys) = if x == y then comes_before xs ys else nat_lt x y

-- success, or the first fault of the files that follow a file with this name
unfoldable pub files_outcome : List ℕ → List SetEntry → Result (Unit {0}) Fault
files_outcome previous [] = Ok tt
files_outcome previous (f ∷ fs) =
    if nat_le (2 ^ 62) f.size then Err faults.Length
    else if not (is_first_name f.name) then Err faults.Name
    else if not (comes_before previous f.name) then Err faults.Order
    else files_outcome f.name fs

-- whether a block of this size is larger than every file, whose length is rounded up to a multiple of 4096
unfoldable pub exceeds : ℕ → List SetEntry → Bool
exceeds block [] = true
exceeds block (f ∷ fs) = nat_lt (round_up 4096 f.size) block && exceeds block fs

-- whether a block of this size is too large for files: larger than 2^26 bytes, and than every file
unfoldable pub is_too_large : ℕ → List SetEntry → Bool
is_too_large block files = nat_lt (2 ^ 26) block && exceeds block files

-- success, or the first fault of a set
unfoldable pub first_outcome : FileSet → Result (Unit {0}) Fault
first_outcome s =
    if not (allows_block s.block_bytes) then Err faults.BlockSize
    else if not (allows_counts s.original_count s.recovery_count) then Err faults.Counts
    else files_outcome [] s.entries >>= λ _.
    if is_too_large s.block_bytes s.entries then Err faults.LargeBlock
    else if blocks_in s.block_bytes s.entries == s.original_count then Ok tt else Err faults.Blocks

-- a set has a description of version 1, and its numbers fit each other
pub record IsFirstSound (s : FileSet) : Type 0 where
  pub fits : FirstFits s
  pub outcome : first_outcome s ≡ Ok tt

-- the sound set that bytes describe, or the first fault
unfoldable pub first_reading : List ℕ → Result FileSet Fault
first_reading bytes = first_description_in bytes >>= λ s. first_outcome s >>= λ _. Ok s
