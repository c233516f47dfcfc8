-- Reading a description from left to right, with the first fault that is met.
use Rattle.std.specs.Prelude.{◌≡◌, ℕ, zero, suc, ◌+◌, ◌*◌, List, [], ◌∷◌, length, take, drop, Result, Ok, Err, nat_lt}
use Rattle.std.specs.Prelude.{◌==◌, if◌then◌else◌}
use Rattle.std.specs.Int.{Width, w16, w32, w64, byte_len, from_le_bytes}
use Rattle.std.specs.Str.{bytes_eq}
use Rattle.rs_volumes.specs.declared.description.Kind.{Kind}
use Rattle.rs_volumes.specs.declared.description.Kind.TheVariants.{File, Link, Folder}
use Rattle.rs_volumes.specs.declared.description.Version.TheVariants.{Second}
use Rattle.rs_volumes.specs.declared.fault.Fault.{Fault}
use Rattle.rs_volumes.specs.declared.fault.Fault.TheVariants as faults
use Rattle.rs_volumes.specs.declared.fault.ReadError.{ReadError}
use Rattle.rs_volumes.specs.declared.fault.ReadError.TheVariants as errors
use Rattle.rs_volumes.specs.declared.opening.Opening.{Opening}
use Rattle.rs_volumes.specs.Description.{SetEntry, SetField, FileSet}

-- the second step, if the first one succeeds, else the fault of the first one
infixl 10 ◌>>=◌
abbrev pub ◌>>=◌ : {A B : Type 0} → Result A Fault → (A → Result B Fault) → Result B Fault
(Ok x) >>= f = f x
(Err e) >>= f = Err e

-- a function that failed reports the fault of the reading, or memory could not be allocated
abbrev pub Fails : {Y : Type 0} → ReadError → Result Y Fault → Type 0
Fails errors.Memory read = Unit {0}
Fails (errors.Fault f) read = read ≡ Err f

-- a function returned what the reading gives, unless memory could not be allocated
abbrev pub Gives : {X Y : Type 0} → (X → Y) → Result X ReadError → Result Y Fault → Type 0
Gives view (Ok x) read = read ≡ Ok (view x)
Gives view (Err e) read = Fails e read

-- a function that allocates nothing returned what the reading gives
abbrev pub Reads : {X Y : Type 0} → (X → Y) → Result X Fault → Result Y Fault → Type 0
Reads view (Ok x) read = read ≡ Ok (view x)
Reads view (Err fault) read = read ≡ Err fault

-- ---- numbers and bytes

-- a number of this width at the front, and the bytes after it
abbrev pub number_at : Width → List ℕ → Result (ℕ × List ℕ) Fault
number_at w bytes =
    if nat_lt (length bytes) (byte_len w) then Err faults.Short
    else Ok (from_le_bytes w (take (byte_len w) bytes), drop (byte_len w) bytes)

-- this many bytes at the front, and the bytes after them
unfoldable pub taken_at : ℕ → List ℕ → Result (List ℕ × List ℕ) Fault
taken_at count bytes = if nat_lt (length bytes) count then Err faults.Short else Ok (take count bytes, drop count bytes)

-- a name at the front, after its length, and the bytes after it
unfoldable pub name_at : List ℕ → Result (List ℕ × List ℕ) Fault
name_at bytes = do
  n ← number_at w16 bytes
  taken_at n.0 n.1

-- this number of four bytes at the front, or this fault, and the bytes after it
unfoldable pub fixed_at : ℕ → Fault → List ℕ → Result (List ℕ) Fault
fixed_at wanted fault bytes = do
  n ← number_at w32 bytes
  if n.0 == wanted then Ok n.1 else Err fault

-- this magic number of eight bytes at the front, and the bytes after it
unfoldable pub magic_at : List ℕ → List ℕ → Result (List ℕ) Fault
magic_at magic bytes = if bytes_eq (take 8 bytes) magic then Ok (drop 8 bytes) else Err faults.Magic

-- the opening at the front, and the bytes after it
unfoldable pub opening_at : List ℕ → Result (Opening × List ℕ) Fault
opening_at bytes = do
  code ← fixed_at 1 faults.Code bytes
  digest ← fixed_at 1 faults.Digest code
  block ← number_at w64 digest
  k ← number_at w32 block.1
  r ← number_at w32 k.1
  count ← number_at w32 r.1
  Ok (record { block_bytes = block.0; original_count = k.0; recovery_count = r.0; entry_count = count.0 }, count.1)

-- ---- entries

-- this many items at the front, each read by this function, and the bytes after them
unfoldable pub items_at : {X : Type 0} → (List ℕ → Result (X × List ℕ) Fault) → ℕ → List ℕ
    → Result (List X × List ℕ) Fault
items_at item_at zero bytes = Ok ([], bytes)
items_at item_at (suc n) bytes = do
  first ← item_at bytes
  others ← items_at item_at n first.1
  Ok (first.0 ∷ others.0, others.1)

-- the kind with this number
unfoldable pub kind_with : ℕ → Result Kind Fault
kind_with n =
    if n == 1 then Ok File else if n == 2 then Ok Link else if n == 3 then Ok Folder else Err faults.Kind

-- the kind of an entry at the front, and the bytes after it
unfoldable pub kind_at : List ℕ → Result (Kind × List ℕ) Fault
kind_at bytes = do
  n ← number_at w16 bytes
  kind ← kind_with n.0
  Ok (kind, n.1)

-- an entry at the front, and the bytes after it
unfoldable pub entry_at : List ℕ → Result (SetEntry × List ℕ) Fault
entry_at bytes = do
  kind ← kind_at bytes
  mode ← number_at w16 kind.1
  nanoseconds ← number_at w32 mode.1
  size ← number_at w64 nanoseconds.1
  seconds ← number_at w64 size.1
  name ← name_at seconds.1
  target ← name_at name.1
  digest ← taken_at 32 target.1
  Ok (
    record {
      kind = kind.0;
      mode = mode.0;
      size = size.0;
      seconds = seconds.0;
      nanoseconds = nanoseconds.0;
      name = name.0;
      target = target.0;
      digest = digest.0;
    },
    digest.1,
  )

-- this many entries at the front, and the bytes after them
abbrev pub entries_at : ℕ → List ℕ → Result (List SetEntry × List ℕ) Fault
entries_at count bytes = items_at entry_at count bytes

-- ---- fields

-- a field at the front, and the bytes after it
unfoldable pub field_at : List ℕ → Result (SetField × List ℕ) Fault
field_at bytes = do
  kind ← number_at w32 bytes
  size ← number_at w32 kind.1
  taken ← taken_at size.0 size.1
  Ok (record { kind = kind.0; bytes = taken.0 }, taken.1)

-- the fields that take all of the bytes, at most this many fields
unfoldable pub fields_in : ℕ → List ℕ → Result (List SetField) Fault
fields_in most [] = Ok []
fields_in zero (b ∷ bs) = Err faults.Short
fields_in (suc most) (b ∷ bs) = do
  first ← field_at (b ∷ bs)
  others ← fields_in most first.1
  Ok (first.0 ∷ others)

-- the number of bytes of the fields and then the fields at the front, and the bytes after them; there are fewer fields
-- than bytes
unfoldable pub fields_at : List ℕ → Result (List SetField × List ℕ) Fault
fields_at bytes = do
  size ← number_at w32 bytes
  taken ← taken_at size.0 size.1
  fields ← fields_in (length taken.0) taken.0
  Ok (fields, taken.1)

-- ---- a description

-- bytes that are all digests of k + r blocks and sums of k blocks
unfoldable pub tail_in : ℕ → ℕ → List ℕ → Result (List ℕ × List ℕ) Fault
tail_in k r bytes =
    if nat_lt (length bytes) (32 * (k + r) + 8 * k) then Err faults.Short
    else if nat_lt (32 * (k + r) + 8 * k) (length bytes) then Err faults.Trailing
    else Ok (take (32 * (k + r)) bytes, drop (32 * (k + r)) bytes)

-- a description that takes all of the bytes
unfoldable pub description_in : List ℕ → Result FileSet Fault
description_in bytes = do
  opening ← opening_at bytes
  volumes ← number_at w32 opening.1
  fields ← fields_at volumes.1
  entries ← entries_at opening.0.entry_count fields.1
  ending ← tail_in opening.0.original_count opening.0.recovery_count entries.1
  Ok (record {
    version = Second;
    block_bytes = opening.0.block_bytes;
    original_count = opening.0.original_count;
    recovery_count = opening.0.recovery_count;
    volumes = volumes.0;
    fields = fields.0;
    entries = entries.0;
    digests = ending.0;
    sums = ending.1;
  })
