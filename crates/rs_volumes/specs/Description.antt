-- A set of files, and the one spelling of its description in bytes, in version 2.
use Rattle.std.specs.Prelude.{ℕ, ◌+◌, ◌*◌, ◌<◌, ◌^◌, ◌≡◌, List, ◌++◌, length, map}
use Rattle.std.specs.List.{flat_map, AllByRecursion}
use Rattle.std.specs.Int.{w16, w32, w64, to_le_bytes}
use Rattle.rs_volumes.specs.declared.description.Kind.{Kind}
use Rattle.rs_volumes.specs.declared.description.Kind.TheVariants.{File, Link, Folder}
use Rattle.rs_volumes.specs.declared.description.Version.{Version}
use Rattle.rs_volumes.specs.declared.description.Version.TheVariants.{Second}
use Rattle.rs_volumes.specs.declared.description.Entry.{Entry}
use Rattle.rs_volumes.specs.declared.description.Field.{Field}
use Rattle.rs_volumes.specs.declared.description.Description.{Description}
use Rattle.rs_volumes.specs.declared.opening.Opening.{Opening}

-- an entry: what it is, its permission bits, its length in bytes, the time of its last change, its name, the target of
-- a link, and the digest of a file
pub record SetEntry : Type 0 where
  pub kind : Kind
  pub mode : ℕ
  pub size : ℕ
  pub seconds : ℕ
  pub nanoseconds : ℕ
  pub name : List ℕ
  pub target : List ℕ
  pub digest : List ℕ

-- a field: its kind and its bytes
pub record SetField : Type 0 where
  pub kind : ℕ
  pub bytes : List ℕ

-- a set: the version of its description, the size of a block in bytes, the numbers of original blocks, of recovery
-- blocks and of volumes, the fields, the entries, the digests of all blocks, one after another, and the sums of the
-- original blocks
pub record FileSet : Type 0 where
  pub version : Version
  pub block_bytes : ℕ
  pub original_count : ℕ
  pub recovery_count : ℕ
  pub volumes : ℕ
  pub fields : List SetField
  pub entries : List SetEntry
  pub digests : List ℕ
  pub sums : List ℕ

-- what the program's entry represents
abbrev pub entry_of : Entry → SetEntry
entry_of e =
    record {
      kind = e.kind;
      mode = e.mode;
      size = e.size;
      seconds = e.seconds;
      nanoseconds = e.nanoseconds;
      name = e.name.items;
      target = e.target.items;
      digest = e.digest;
    }

-- what the program's list of entries represents
abbrev pub entries_of : List Entry → List SetEntry
entries_of entries = map entry_of entries

-- what the program's field represents
abbrev pub field_of : Field → SetField
field_of f = record { kind = f.kind; bytes = f.bytes.items }

-- what the program's list of fields represents
abbrev pub fields_of : List Field → List SetField
fields_of fields = map field_of fields

-- what the program's description represents
abbrev pub set_of : Description → FileSet
set_of d =
    record {
      version = d.version;
      block_bytes = d.block_bytes;
      original_count = d.original_count;
      recovery_count = d.recovery_count;
      volumes = d.volumes;
      fields = fields_of d.fields.items;
      entries = entries_of d.entries.items;
      digests = d.digests.items;
      sums = d.sums.items;
    }

-- ---- the spelling

-- the number of a kind of entry
unfoldable pub kind_number : Kind → ℕ
kind_number File = 1
kind_number Link = 2
kind_number Folder = 3

-- two bytes of length, and then as many bytes
abbrev pub name_spelling : List ℕ → List ℕ
name_spelling name = to_le_bytes w16 (length name) ++ name

-- the numbers of an entry: kind, permission bits, nanoseconds, length, and seconds
abbrev pub entry_numbers : SetEntry → List ℕ
entry_numbers e =
    to_le_bytes w16 (kind_number e.kind)
    ++ (to_le_bytes w16 e.mode
    ++ (to_le_bytes w32 e.nanoseconds ++ (to_le_bytes w64 e.size ++ to_le_bytes w64 e.seconds)))

-- the spelling of an entry: its numbers, its name, its target, and its digest
abbrev pub entry_spelling : SetEntry → List ℕ
entry_spelling e = entry_numbers e ++ (name_spelling e.name ++ (name_spelling e.target ++ e.digest))

-- the spelling of a field: its kind, the number of its bytes, and its bytes
abbrev pub field_spelling : SetField → List ℕ
field_spelling f = to_le_bytes w32 f.kind ++ (to_le_bytes w32 (length f.bytes) ++ f.bytes)

-- the spelling of fields: the number of their bytes, and the fields
abbrev pub fields_spelling : List SetField → List ℕ
fields_spelling fields =
    to_le_bytes w32 (length (flat_map field_spelling fields)) ++ flat_map field_spelling fields

-- the spelling of the numbers with which a description begins: code 1, digest 1, the size of a block, and the counts of
-- original blocks, recovery blocks and entries
abbrev pub opening_spelling : Opening → List ℕ
opening_spelling o =
    to_le_bytes w32 1 ++
    (to_le_bytes w32 1 ++
    (to_le_bytes w64 o.block_bytes
    ++ (to_le_bytes w32 o.original_count ++ (to_le_bytes w32 o.recovery_count ++ to_le_bytes w32 o.entry_count))))

-- the numbers with which the description of a set begins
abbrev pub opening_of : FileSet → Opening
opening_of s =
    record {
      block_bytes = s.block_bytes;
      original_count = s.original_count;
      recovery_count = s.recovery_count;
      entry_count = length s.entries;
    }

-- the spelling of a description: the opening, the number of volumes, the fields, the entries, the digests, and the sums
abbrev pub spelling : FileSet → List ℕ
spelling s =
    opening_spelling (opening_of s)
    ++ (to_le_bytes w32 s.volumes
    ++ (fields_spelling s.fields ++ (flat_map entry_spelling s.entries ++ (s.digests ++ s.sums))))

-- ---- the numbers fit their fields

-- the permission bits, the name and the target of an entry fit their fields
pub record HasShortNames (e : Entry) : Type 0 where
  pub mode : e.mode < 2 ^ 16
  pub name : length e.name.items < 2 ^ 16
  pub target : length e.target.items < 2 ^ 16

-- the numbers of an opening fit their fields
pub record OpeningFits (o : Opening) : Type 0 where
  pub block_bytes : o.block_bytes < 2 ^ 64
  pub original_count : o.original_count < 2 ^ 32
  pub recovery_count : o.recovery_count < 2 ^ 32
  pub entry_count : o.entry_count < 2 ^ 32

-- the numbers of an entry fit their fields, and its digest has 32 bytes
pub record EntryFits (e : SetEntry) : Type 0 where
  pub mode : e.mode < 2 ^ 16
  pub nanoseconds : e.nanoseconds < 2 ^ 32
  pub size : e.size < 2 ^ 64
  pub seconds : e.seconds < 2 ^ 64
  pub name : length e.name < 2 ^ 16
  pub target : length e.target < 2 ^ 16
  pub digest : length e.digest ≡ 32

-- the numbers of a field fit
pub record FieldFits (f : SetField) : Type 0 where
  pub kind : f.kind < 2 ^ 32
  pub bytes : length f.bytes < 2 ^ 32

-- the numbers of a set fit their fields, there is a digest of 32 bytes for each block, and there are sums of 8 bytes
-- for each original block
pub record Fits (s : FileSet) : Type 0 where
  pub version : s.version ≡ Second
  pub opening : OpeningFits (opening_of s)
  pub volumes : s.volumes < 2 ^ 32
  pub fields : AllByRecursion FieldFits s.fields
  pub field_bytes : length (flat_map field_spelling s.fields) < 2 ^ 32
  pub entries : AllByRecursion EntryFits s.entries
  pub digests : length s.digests ≡ 32 * (s.original_count + s.recovery_count)
  pub sums : length s.sums ≡ 8 * s.original_count
