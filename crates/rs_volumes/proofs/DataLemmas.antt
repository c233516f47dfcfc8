-- Lists of entries and fields, one after the other, and where files begin and end in the data.
use Rattle.std.proofs.Common.{◌≡◌, ℕ, zero, suc, ◌+◌, ◌-◌, ◌*◌, ◌/◌, ◌^◌, ◌<◌, ◌≤◌, List, [], ◌∷◌, ◌++◌, length}
use Rattle.std.proofs.Common.{get_or, take, refl, sym, ap, ◌∙◌, arith, inl, inr}
use Rattle.std.specs.List.{flat_map}
use Rattle.std.proofs.lemmas.Grind.{flat_map-append}
use Rattle.std.proofs.lemmas.List.{append-nil, take_more, map-append}
use Rattle.std.proofs.lemmas.List.Concat.{flat_map-cons}
use Rattle.rs_volumes.specs.declared.description.Entry.{Entry}
use Rattle.rs_volumes.specs.declared.description.Field.{Field}
use Rattle.std.proofs.Math.Nat.{div-mul-le_self, lt-div-mul-add}
use Rattle.std.proofs.lemmas.Bool.{lt-ltb, le-ltb, eq-eqb, ne_eqb, cases_lt}
use Rattle.std.specs.Prelude.{Option, None, Some}
use Rattle.rs_volumes.specs.Description.{SetEntry, SetField, entry_of, entries_of, field_of, fields_of, field_spelling}
use Rattle.rs_volumes.specs.Data.{blocks_of, round_up, end_after, end_of, start_of, below_limit}

-- the first n + 1 entries are the first n entries and then entry n
pub entries_further : (entries : List Entry) {n : ℕ} {entry : Entry} → n < length entries
    → entry ≡ get_or entries n entry
    → entries_of (take (n + 1) entries) ≡ entries_of (take n entries) ++ entry_of entry ∷ []
entries_further entries {n = n} {entry = entry} h e =
    ap entries_of (take_more entries n entry h ∙ ap (λ (f : Entry). take n entries ++ f ∷ []) (sym e))
    ∙ map-append entry_of (take n entries) (entry ∷ [])

-- the spelling of the first n + 1 fields is that of the first n fields and then that of field n
pub fields_spelled_further : (fields : List Field) (n : ℕ) (field : Field) → n < length fields
    → field ≡ get_or fields n field
    → flat_map field_spelling (fields_of (take (n + 1) fields)) ≡ flat_map field_spelling (fields_of (take n fields))
    ++ field_spelling (field_of field)
fields_spelled_further fields n field h e =
    let more : fields_of (take (n + 1) fields) ≡ fields_of (take n fields) ++ field_of field ∷ [] =
    ap fields_of (take_more fields n field h ∙ ap (λ (f : Field). take n fields ++ f ∷ []) (sym e))
    ∙ map-append field_of (take n fields) (field ∷ []) in
    ap (λ (fs : List SetField). flat_map field_spelling fs) more
    ∙ flat_map-append field_spelling (fields_of (take n fields)) (field_of field ∷ [])
    ∙ ap (λ (bytes : List ℕ). flat_map field_spelling (fields_of (take n fields)) ++ bytes)
    (flat_map-cons field_spelling (field_of field) [] ∙ append-nil (field_spelling (field_of field)))

-- ---- blocks

-- Blocks of this size hold all bytes.
pub blocks_hold : (block size : ℕ) → 0 < block → size ≤ blocks_of block size * block
unfolding blocks_of
blocks_hold block size some =
    let h : size + (block - 1) < (size + (block - 1)) / block * block + block = lt-div-mul-add some in
    omega (arith, h, some)

-- Each block but the last one is full.
pub blocks_needed : (block size : ℕ) → 0 < block → blocks_of block size * block ≤ size + (block - 1)
unfolding blocks_of
blocks_needed block size some = div-mul-le_self (size + (block - 1)) block

-- The smallest multiple of a unit fits if the unit and the position do.
pub multiple_fits : (unit at : ℕ) → 0 < unit → unit ≤ 2 ^ 62 → at < 2 ^ 62 → blocks_of unit at * unit < 2 ^ 64
multiple_fits unit at some few small = let h = blocks_needed unit at some in omega (arith, h, some, few, small)

pub round_up_least : (unit at : ℕ) → 0 < unit → at ≤ round_up unit at
unfolding round_up
round_up_least unit at some = blocks_hold unit at some

-- ---- the end of files

-- A file without bytes does not move the next file.
pub end_after_none : (unit at size : ℕ) → size ≡ 0 → end_after unit at size ≡ at
unfolding end_after
end_after_none unit at size none = rw (eq-eqb size 0 none) refl

pub end_after_some : (unit at size : ℕ) → 0 < size → end_after unit at size ≡ round_up unit at + size
unfolding end_after
end_after_some unit at size some = rw (ne_eqb size 0 (λ e. let no : ⊥ = omega (arith, some, e) in no)) refl

pub end_after_grows : (unit at size : ℕ) → 0 < unit → at ≤ end_after unit at size
end_after_grows unit at zero some = rw (end_after_none unit at 0 refl) (let h : at ≤ at = omega arith in h)
end_after_grows unit at (suc n) some =
    let h = round_up_least unit at some in
    let e = end_after_some unit at (suc n) (omega arith) in
    omega (arith, h, e)

pub end_of_grows : (unit at : ℕ) (es : List SetEntry) → 0 < unit → at ≤ end_of unit at es
unfolding end_of
end_of_grows unit at [] some = omega arith
end_of_grows unit at (e ∷ es) some =
    let one = end_after_grows unit at e.size some in
    let others = end_of_grows unit (end_after unit at e.size) es some in
    omega (arith, one, others)

pub end_of_append : (unit at : ℕ) (xs ys : List SetEntry)
    → end_of unit at (xs ++ ys) ≡ end_of unit (end_of unit at xs) ys
unfolding end_of
end_of_append unit at [] ys = refl
end_of_append unit at (x ∷ xs) ys = end_of_append unit (end_after unit at x.size) xs ys

-- The file after some others begins at the next multiple of the unit.
pub start_after : (unit at : ℕ) (before : List SetEntry) (e : SetEntry) (es : List SetEntry)
    → start_of unit at (before ++ e ∷ es) (length before) ≡ round_up unit (end_of unit at before)
unfolding start_of end_of
start_after unit at [] e es = refl
start_after unit at (x ∷ before) e es = start_after unit (end_after unit at x.size) before e es

-- ---- the limit

abbrev some_of : ℕ → Option ℕ
some_of n = Some n

abbrev none : Option ℕ
none = None

pub is_below : (n : ℕ) → n < 2 ^ 62 → below_limit n ≡ Some n
unfolding below_limit
is_below n lt = rw (lt-ltb n (2 ^ 62) lt) refl

pub is_not_below : (n : ℕ) → 2 ^ 62 ≤ n → below_limit n ≡ None
unfolding below_limit
is_not_below n le = rw (le-ltb n (2 ^ 62) le) refl

some_same : (n m : ℕ) → some_of n ≡ some_of m → n ≡ m
some_same n m e = cc

none_not_some : (n : ℕ) → none ≡ some_of n → ⊥
none_not_some n e = cc

-- A number that is given is below the limit.
pub was_below : (n m : ℕ) → below_limit n ≡ Some m → (n ≡ m) × (n < 2 ^ 62)
unfolding below_limit
was_below n m e =
    elim (cases_lt n (2 ^ 62)) [
      | inl lt ↦ (some_same n m (sym (is_below n lt) ∙ e), lt)
      | inr le ↦ absurd (none_not_some m (sym (is_not_below n le) ∙ e))
    ]

-- A number that is not given is not below the limit.
pub was_not_below : (n : ℕ) → below_limit n ≡ None → 2 ^ 62 ≤ n
was_not_below n e =
    elim (cases_lt n (2 ^ 62)) [
      | inl lt ↦ absurd (none_not_some n (sym e ∙ is_below n lt))
      | inr le ↦ le
    ]

-- the end of a file, and whether it is below the limit
pub ruleset ends_of_files = (end_after_none, end_after_some, is_below, is_not_below)
