-- The steps of the loops that check entries and fields.
use Rattle.std.proofs.Common.{rules, ◌≡◌, ◌≢◌, ℕ, zero, suc, ◌+◌, ◌^◌, ◌<◌, ◌≤◌, true, false, List, [], ◌∷◌}
use Rattle.std.proofs.Common.{◌++◌, length, get_or, drop, drop-cons, Ok, Err, refl, ap, ◌∙◌, arith}
use Rattle.std.specs.Prelude.{None, Some}
use Rattle.std.specs.List.{All, flat_map}
use Rattle.std.specs.Int.{w32, to_le_bytes}
use Rattle.std.proofs.lemmas.Bool.{lt-ltb, le-ltb, le-leb, lt-leb, eq-eqb, ne_eqb}
use Rattle.std.proofs.lemmas.List.{drop_all, length-append}
use Rattle.std.proofs.lemmas.List.Concat.{flat_map-cons}
use Rattle.rs_volumes.specs.declared.description.Entry.{Entry}
use Rattle.rs_volumes.specs.declared.description.Field.{Field}
use Rattle.rs_volumes.specs.declared.fault.Fault.{Fault}
use Rattle.rs_volumes.specs.declared.fault.Fault.TheVariants.{Order, Inside, Length, LargeBlock, Blocks}
use Rattle.rs_volumes.specs.Description.{SetEntry, SetField, entry_of, entries_of, field_of, fields_of, field_spelling}
use Rattle.rs_volumes.specs.Names.{is_before, is_folder_of}
use Rattle.rs_volumes.specs.Data.{blocks_of, end_after, end_of, below_limit}
use Rattle.rs_volumes.specs.Sound.{entry_outcome, entries_outcome, known_fields, is_large, data_outcome}
use Rattle.rs_volumes.proofs.Fields.{wide32}
use Rattle.rs_volumes.proofs.DataLemmas.{end_of_grows, was_below, was_not_below, is_not_below}

drop_item : {X : Type 0} (xs : List X) (i : ℕ) (x : X) → i < length xs → x ≡ get_or xs i x
    → drop i xs ≡ x ∷ drop (i + 1) xs
drop_item xs i x h e = search (rules, drop-cons)

-- ---- an entry in a list

module _ (entries : List Entry) {i : ℕ} {entry : Entry} (h : i < length entries)
    (e : entry ≡ get_or entries i entry) where
  cut : entries_of (drop i entries) ≡ entry_of entry ∷ entries_of (drop (i + 1) entries)
  cut = ap entries_of (drop_item entries i entry h e)

  pub entry_fault : (previous : List ℕ) (fault : Fault) → entry_outcome (entry_of entry) ≡ Err fault
      → entries_outcome previous (entries_of (drop i entries)) ≡ Err fault
  unfolding entries_outcome
  entry_fault previous fault bad = ap (entries_outcome previous) cut ∙ rw bad refl

  module _ (good : entry_outcome (entry_of entry) ≡ Ok tt) where
    pub order_fault : (previous : List ℕ) → is_before previous entry.name.items ≡ false
        → entries_outcome previous (entries_of (drop i entries)) ≡ Err Order
    unfolding entries_outcome
    order_fault previous bad = ap (entries_outcome previous) cut ∙ rw (good, bad) refl

    pub inside_fault : (previous : List ℕ) → is_before previous entry.name.items ≡ true
        → is_folder_of previous entry.name.items ≡ true
        → entries_outcome previous (entries_of (drop i entries)) ≡ Err Inside
    unfolding entries_outcome
    inside_fault previous later bad = ap (entries_outcome previous) cut ∙ rw (good, later, bad) refl

    pub passes_at : (previous : List ℕ) → is_before previous entry.name.items ≡ true
        → is_folder_of previous entry.name.items ≡ false
        → entries_outcome previous (entries_of (drop i entries))
        ≡ entries_outcome entry.name.items (entries_of (drop (i + 1) entries))
    unfolding entries_outcome
    passes_at previous later apart = ap (entries_outcome previous) cut ∙ rw (good, later, apart) refl

  pub end_at : (unit at : ℕ) → end_of unit at (entries_of (drop i entries))
      ≡ end_of unit (end_after unit at entry.size) (entries_of (drop (i + 1) entries))
  unfolding end_of
  end_at unit at = ap (end_of unit at) cut

  -- If the end of a file is not below the limit, the end of all files is not below it.
  pub too_long_at : (unit at : ℕ) → 0 < unit → below_limit (end_after unit at entry.size) ≡ None
      → below_limit (end_of unit at (entries_of (drop i entries))) ≡ None
  too_long_at unit at some long =
      let here = was_not_below (end_after unit at entry.size) long in
      let grows = end_of_grows unit (end_after unit at entry.size) (entries_of (drop (i + 1) entries)) some in
      let same = end_at unit at in
      is_not_below (end_of unit at (entries_of (drop i entries))) (omega (arith, here, grows, same))

pub passes_past : (entries : List Entry) (i : ℕ) (previous : List ℕ) → length entries ≤ i
    → entries_outcome previous (entries_of (drop i entries)) ≡ Ok tt
unfolding entries_outcome
passes_past entries i previous h = rw (drop_all i entries h) refl

pub end_past : (entries : List Entry) (i unit at : ℕ) → length entries ≤ i
    → end_of unit at (entries_of (drop i entries)) ≡ at
unfolding end_of
end_past entries i unit at h = rw (drop_all i entries h) refl

-- ---- a field in a list

-- the bytes of a field and of those after it
bytes-cons : (f : SetField) (fs : List SetField) → length (flat_map field_spelling (f ∷ fs))
    ≡ 8 + length f.bytes + length (flat_map field_spelling fs)
bytes-cons f fs =
    let cut : length (flat_map field_spelling (f ∷ fs)) ≡ length (field_spelling f ++ flat_map field_spelling fs) =
    ap (λ (bytes : List ℕ). length bytes) (flat_map-cons field_spelling f fs) in
    let a = length-append (field_spelling f) (flat_map field_spelling fs) in
    let b = length-append (to_le_bytes w32 f.kind) (to_le_bytes w32 (length f.bytes) ++ f.bytes) in
    let c = length-append (to_le_bytes w32 (length f.bytes)) f.bytes in
    let kind = wide32.len f.kind in
    let size = wide32.len (length f.bytes) in
    omega (arith, cut, a, b, c, kind, size)

module _ (fields : List Field) {i : ℕ} {field : Field} (h : i < length fields)
    (e : field ≡ get_or fields i field) where
  cut_field : fields_of (drop i fields) ≡ field_of field ∷ fields_of (drop (i + 1) fields)
  cut_field = ap fields_of (drop_item fields i field h e)

  pub known_at : field.kind < 2 ^ 31
      → known_fields (fields_of (drop i fields)) ≡ known_fields (fields_of (drop (i + 1) fields))
  unfolding known_fields
  known_at known = ap known_fields cut_field ∙ rw (lt-ltb _ _ known) refl

  pub unknown_at : 2 ^ 31 ≤ field.kind → known_fields (fields_of (drop i fields)) ≡ false
  unfolding known_fields
  unknown_at unknown = ap known_fields cut_field ∙ rw (le-ltb _ _ unknown) refl

pub known_past : (fields : List Field) (i : ℕ) → length fields ≤ i → known_fields (fields_of (drop i fields)) ≡ true
unfolding known_fields
known_past fields i h = rw (drop_all i fields h) refl

-- A field is not longer than all fields.
bytes_of_each : (fs : List Field) (k : ℕ) (d : Field) → k < length fs
    → length (get_or fs k d).bytes.items ≤ length (flat_map field_spelling (fields_of fs))
bytes_of_each [] k d lt = absurd (let no : ⊥ = omega (arith, lt) in no)
bytes_of_each (f ∷ fs) zero d lt =
    let all = bytes-cons (field_of f) (fields_of fs) in
    omega (arith, all)
bytes_of_each (f ∷ fs) (suc k) d lt =
    let all = bytes-cons (field_of f) (fields_of fs) in
    let others = bytes_of_each fs k d (omega (arith, lt)) in
    omega (arith, all, others)

-- If all fields together have fewer than 2^32 bytes, each field has fewer.
pub each_is_short : (fs : List Field) → length (flat_map field_spelling (fields_of fs)) < 2 ^ 32
    → All (λ field. length field.bytes.items < 2 ^ 32) fs
each_is_short fs short k d lt = let h = bytes_of_each fs k d lt in omega (arith, h, short)

-- ---- the data of entries

-- Data of too many bytes is a fault.
pub data_long : (block count : ℕ) (es : List SetEntry) → below_limit (end_of 64 0 es) ≡ None
    → data_outcome block count es ≡ Err Length
unfolding data_outcome
data_long block count es long = rw (le-leb _ _ (was_not_below (end_of 64 0 es) long)) refl

module _ (block count : ℕ) (es : List SetEntry) (end : ℕ) (given : below_limit (end_of 64 0 es) ≡ Some end) where
  pub data_large : is_large block end ≡ true → data_outcome block count es ≡ Err LargeBlock
  unfolding data_outcome
  data_large large =
      let b = was_below (end_of 64 0 es) end given in
      rw (lt-leb _ _ b.1, b.0, large) refl

  pub data_other : is_large block end ≡ false → blocks_of block end ≢ count → data_outcome block count es ≡ Err Blocks
  unfolding data_outcome
  data_other small other =
      let b = was_below (end_of 64 0 es) end given in
      rw (lt-leb _ _ b.1, b.0, small, ne_eqb _ _ other) refl

  pub data_fits : is_large block end ≡ false → blocks_of block end ≡ count → data_outcome block count es ≡ Ok tt
  unfolding data_outcome
  data_fits small same =
      let b = was_below (end_of 64 0 es) end given in
      rw (lt-leb _ _ b.1, b.0, small, eq-eqb _ _ same) refl

-- what the data of entries comes to
pub ruleset outcomes_of_data = (data_long, data_large, data_other, data_fits)
