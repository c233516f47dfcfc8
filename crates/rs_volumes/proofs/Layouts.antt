-- The places of all files of a set, one file after another.
use Rattle.std.proofs.Common.{rules, ◌≡◌, ℕ, zero, suc, ◌+◌, ◌-◌, ◌*◌, ◌<◌, ◌≤◌, List, [], ◌∷◌, ◌++◌, length, get_or}
use Rattle.std.proofs.Common.{map}
use Rattle.std.specs.Prelude.{None, Some}
use Rattle.std.proofs.Common.{refl, sym, ap, subst, ◌∙◌, append_assoc, arith, ◌⊎◌, inl, inr, true, false, ◌^◌, take}
use Rattle.std.proofs.Common.{drop, Ok, Err}
use Rattle.std.specs.List.{All, concat, flat_map}
use Rattle.std.proofs.Math.Seq.{get_or-append_seam}
use Rattle.std.proofs.lemmas.Bool.{and_parts, eq-eqb, leb-true, ltb-true, ne_eqb, le-leb, lt-leb}
use Rattle.std.specs.Prelude.{◌&&◌, ◌==◌, ◌%◌, Bool, nat_le, nat_lt}
use Rattle.std.proofs.lemmas.Grind.{flat_map-append}
use Rattle.std.proofs.lemmas.List.{append-nil, length-append, take-append-drop, length-take, map-append, length-map}
use Rattle.std.proofs.lemmas.List.Elements.{All-append, All-nil}
use Rattle.rs_field.specs.code.Column.{Shard, shard_at}
use Rattle.rs_volumes.specs.declared.placement.Place.{Place}
use Rattle.rs_volumes.specs.declared.description.Entry.{Entry}
use Rattle.rs_volumes.specs.Description.{SetEntry, FileSet, entry_of, entries_of}
use Rattle.rs_volumes.specs.Data.{below_limit, blocks_of, data_of, end_after, end_of, round_up, start_of, unit_in}
use Rattle.rs_volumes.specs.Data.{unit_of}
use Rattle.rs_volumes.specs.declared.description.Version.{Version}
use Rattle.rs_volumes.specs.declared.description.Version.TheVariants.{First, Second}
use Rattle.std.proofs.Math.Nat.{lt_of_mul-lt-mul_right}
use Rattle.rs_volumes.proofs.DataLemmas.{blocks_hold}
use Rattle.rs_volumes.specs.declared.fault.Fault.TheVariants.{BlockSize, Length}
use Rattle.rs_volumes.specs.Sound.{allows_block}
use Rattle.rs_volumes.specs.Places.{place_in, file_places, entry_places, set_places, places_in, bytes_at, Cover}
use Rattle.rs_volumes.specs.Places.{IsPlaced}
use Rattle.rs_volumes.specs.Places.{Rises}
use Rattle.rs_volumes.proofs.DataLemmas.{round_up_least, end_after_none, end_after_some, start_after, end_of_append}
use Rattle.rs_volumes.proofs.DataLemmas.{end_of_grows, entries_further, was_below, was_not_below}
use Rattle.rs_volumes.proofs.PlaceLemmas.{lies, block_is, file_is, reached, reached-grows, rises-from}
use Rattle.rs_volumes.proofs.PlaceLemmas.{rises-append, file_covers, file_rises, file_all}

pub size_cases : (n : ℕ) → (n ≡ 0) ⊎ (0 < n)
size_cases zero = inl refl
size_cases (suc n) = inr (omega arith)

-- ---- the first file

entry-none : (unit size at index bytes : ℕ) → bytes ≡ 0 → entry_places unit size at index bytes ≡ []
unfolding entry_places
entry-none unit size at index bytes none = rw (eq-eqb bytes 0 none) refl

entry-some : (unit size at index bytes : ℕ) → 0 < bytes
    → entry_places unit size at index bytes ≡ file_places size index (round_up unit at) (round_up unit at + bytes)
unfolding entry_places
entry-some unit size at index bytes some =
    rw (ne_eqb bytes 0 (λ none. let no : ⊥ = omega (arith, some, none) in no)) refl

-- A file without bytes has no place.
pub places-none : (unit size at index : ℕ) (e : SetEntry) (es : List SetEntry) → e.size ≡ 0
    → set_places unit size at index (e ∷ es) ≡ set_places unit size at (suc index) es
unfolding set_places
places-none unit size at index e es none =
    rw (entry-none unit size at index e.size none, end_after_none unit at e.size none) refl

pub places-some : (unit size at index : ℕ) (e : SetEntry) (es : List SetEntry) → 0 < e.size
    → set_places unit size at index (e ∷ es)
    ≡ file_places size index (round_up unit at) (round_up unit at + e.size)
    ++ set_places unit size (round_up unit at + e.size) (suc index) es
unfolding set_places
places-some unit size at index e es some =
    rw (entry-some unit size at index e.size some, end_after_some unit at e.size some) refl

none_rises : (unit size at index : ℕ) → Rises size at (set_places unit size at index [])
unfolding set_places Rises
none_rises unit size at index = tt

cover_none : (unit size at : ℕ) (before : List Shard)
    → flat_map (bytes_at (before ++ [])) (set_places unit size at (length before) []) ≡ concat []
unfolding set_places
cover_none unit size at before = refl

none_placed : (s : FileSet) (unit size at index : ℕ) → All (IsPlaced s) (set_places unit size at index [])
unfolding set_places
none_placed s unit size at index = All-nil (IsPlaced s)

one_end : (unit at : ℕ) (e : SetEntry) → end_of unit at (e ∷ []) ≡ end_after unit at e.size
unfolding end_of
one_end unit at e = refl

-- ---- the places rise

pub set_rises : (unit size at index : ℕ) (es : List SetEntry) → 0 < unit → 0 < size
    → Rises size at (set_places unit size at index es)
set_rises unit size at index [] some_unit some = none_rises unit size at index
set_rises unit size at index (e ∷ es) some_unit some =
    elim (size_cases e.size) [
      | inl none ↦
          subst (λ (ps : List Place). Rises size at ps) (sym (places-none unit size at index e es none))
          (set_rises unit size at (suc index) es some_unit some)
      | inr bytes ↦
          let start : ℕ = round_up unit at in
          let places : List Place = file_places size index start (start + e.size) in
          let order : start < start + e.size = omega (arith, bytes) in
          let file = file_rises size index start (start + e.size) some order in
          let others = set_rises unit size (start + e.size) (suc index) es some_unit some in
          let le : at ≤ start = round_up_least unit at some_unit in
          let grows : reached size at places ≤ reached size start places = reached-grows size at start places le in
          let in_file = file.1 in
          let up : reached size at places ≤ start + e.size = omega (arith, grows, in_file) in
          subst (λ (ps : List Place). Rises size at ps) (sym (places-some unit size at index e es bytes))
          (rises-append size at places (set_places unit size (start + e.size) (suc index) es)
          (rises-from size at start places le file.0)
          (rises-from size (reached size at places) (start + e.size)
          (set_places unit size (start + e.size) (suc index) es) up others))
    ]

-- ---- the places cover the files

pub no_bytes : (x : Shard) → length x ≡ 0 → x ≡ []
no_bytes [] e = refl
no_bytes (b ∷ bs) e = absurd (let no : ⊥ = omega (arith, e) in no)

cover_from : (unit size at : ℕ) (es : List SetEntry) (before contents : List Shard) → 0 < size
    → map (λ bytes. length bytes) contents ≡ map (λ e. e.size) es
    → flat_map (bytes_at (before ++ contents)) (set_places unit size at (length before) es) ≡ concat contents
cover_from unit size at [] before [] some same = cover_none unit size at before
cover_from unit size at [] before (x ∷ xs) some same = absurd (let no : ⊥ = cc in no)
cover_from unit size at (e ∷ es) before [] some same = absurd (let no : ⊥ = cc in no)
cover_from unit size at (e ∷ es) before (x ∷ xs) some same =
    let all : List Shard = before ++ x ∷ xs in
    let long : length x ≡ e.size = cc in
    let others : map (λ (bytes : Shard). length bytes) xs ≡ map (λ (f : SetEntry). f.size) es = cc in
    let next : length (before ++ x ∷ []) ≡ suc (length before) = (
    let n = length-append before (x ∷ []) in omega (arith, n)
    ) in
    let here : shard_at all (length before) ≡ x = get_or-append_seam before x xs [] in
    elim (size_cases e.size) [
      | inl none ↦
          let rest : flat_map (bytes_at all) (set_places unit size at (suc (length before)) es) ≡ concat xs =
          rw (next, append_assoc before (x ∷ []) xs)
          at (cover_from unit size at es (before ++ x ∷ []) xs some others) in
          let empty : x ≡ [] = no_bytes x (long ∙ none) in
          rw (places-none unit size at (length before) e es none, rest, empty) refl
      | inr bytes ↦
          let start : ℕ = round_up unit at in
          let order : start < start + e.size = omega (arith, bytes) in
          let len : length (shard_at all (length before)) ≡ start + e.size - start =
          ap (λ (s : Shard). length s) here ∙ long ∙ omega arith in
          let own : flat_map (bytes_at all) (file_places size (length before) start (start + e.size)) ≡ x =
          file_covers size (length before) start (start + e.size) all some order len ∙ here in
          let rest : flat_map (bytes_at all) (set_places unit size (start + e.size) (suc (length before)) es)
          ≡ concat xs =
          rw (next, append_assoc before (x ∷ []) xs)
          at (cover_from unit size (start + e.size) es (before ++ x ∷ []) xs some others) in
          rw (
            places-some unit size at (length before) e es bytes,
            flat_map-append (bytes_at all) (file_places size (length before) start (start + e.size))
                (set_places unit size (start + e.size) (suc (length before)) es),
            own,
            rest,
          ) refl
    ]

-- The places of files cover them.
pub places-cover : (unit size : ℕ) (es : List SetEntry) → 0 < size → Cover es (set_places unit size 0 0 es)
places-cover unit size es some contents same = cover_from unit size 0 es [] contents some same

-- ---- where each place lies

unit_in_some : (version : Version) (block : ℕ) → 0 < block → 0 < unit_in version block
unfolding unit_in
unit_in_some First block some = some
unit_in_some Second block some = omega arith

-- The unit is not 0 if the blocks are not empty.
pub unit_some : (s : FileSet) → 0 < s.block_bytes → 0 < unit_of s
unfolding unit_of
unit_some s some = unit_in_some s.version s.block_bytes some

-- The block of a position in the data is one of the blocks of the data.
block_counted : (size block at bytes : ℕ) → 0 < size → block * size + at < bytes → block < blocks_of size bytes
block_counted size block at bytes some inside =
    let held = blocks_hold size bytes some in
    let less : block * size < blocks_of size bytes * size = omega (arith, held, inside) in
    lt_of_mul-lt-mul_right size less

module _ (s : FileSet) (some : 0 < s.block_bytes) where
  abbrev unit : ℕ
  unit = unit_of s

  abbrev end_before : List SetEntry → ℕ
  end_before before = end_of unit 0 before

  -- A file lies in the data.
  file_in_data : (before : List SetEntry) (e : SetEntry) (es : List SetEntry) → s.entries ≡ before ++ e ∷ es
      → 0 < e.size → round_up unit (end_before before) + e.size ≤ data_of s
  unfolding data_of
  file_in_data before e es all bytes =
      let more : s.entries ≡ (before ++ e ∷ []) ++ es = all ∙ sym (append_assoc before (e ∷ []) es) in
      let whole : end_of unit 0 s.entries ≡ end_of unit (end_before (before ++ e ∷ [])) es =
      ap (end_of unit 0) more ∙ end_of_append unit 0 (before ++ e ∷ []) es in
      let end : end_before (before ++ e ∷ []) ≡ round_up unit (end_before before) + e.size =
      end_of_append unit 0 before (e ∷ []) ∙ one_end unit (end_before before) e
      ∙ end_after_some unit (end_before before) e.size bytes in
      let grows = end_of_grows unit (end_before (before ++ e ∷ [])) es (unit_some s some) in
      omega (arith, whole, end, grows)

  file_placed : (before : List SetEntry) (e : SetEntry) (es : List SetEntry) → s.entries ≡ before ++ e ∷ es → 0 < e.size
      → All (IsPlaced s) (file_places s.block_bytes (length before) (round_up unit (end_before before))
      (round_up unit (end_before before) + e.size))
  file_placed before e es all bytes =
      let start : ℕ = round_up unit (end_before before) in
      let order : start < start + e.size = omega (arith, bytes) in
      let index : length before < length s.entries =
      let sum = length-append before (e ∷ es) in
      let same : length s.entries ≡ length (before ++ e ∷ es) = ap length all in
      omega (arith, sum, same) in
      let own : (d : SetEntry) → get_or s.entries (length before) d ≡ e =
      λ d. ap (λ (xs : List SetEntry). get_or xs (length before) d) all ∙ get_or-append_seam before e es d in
      let begins : start_of unit 0 s.entries (length before) ≡ start =
      ap (λ (xs : List SetEntry). start_of unit 0 xs (length before)) all ∙ start_after unit 0 before e es in
      file_all (IsPlaced s) s.block_bytes (length before) start (start + e.size) some order (λ block h.
      let place : Place = place_in s.block_bytes (length before) start (start + e.size) block in
      let l = lies s.block_bytes (length before) start (start + e.size) block h in
      let file : place.file ≡ length before = file_is s.block_bytes (length before) start (start + e.size) block in
      let inside = l.inside in
      let moved = l.moved in
      let in_data = file_in_data before e es all bytes in
      let block_same : place.block ≡ block = block_is s.block_bytes (length before) start (start + e.size) block in
      record {
        file = omega (arith, index, file);
        some = l.some;
        inside = λ d.
            let size : (get_or s.entries place.file d).size ≡ e.size =
            ap (λ (i : ℕ). (get_or s.entries i d).size) file ∙ ap (λ (f : SetEntry). f.size) (own d) in
            omega (arith, inside, size);
        within = l.within;
        counted = block_counted s.block_bytes place.block place.at (data_of s) some (
            let cut : place.block * s.block_bytes ≡ block * s.block_bytes =
            ap (λ (b : ℕ). b * s.block_bytes) block_same in
            let bytes_some = l.some in
            omega (arith, in_data, cut, moved, inside, bytes_some)
            );
        position_is =
            ap (λ (b : ℕ). b * s.block_bytes + place.at) block_same ∙ moved
            ∙ ap (λ (n : ℕ). n + place.offset) (sym begins)
            ∙ ap (λ (i : ℕ). start_of unit 0 s.entries i + place.offset) (sym file);
      })

  placed_from : (before es : List SetEntry) → s.entries ≡ before ++ es
      → All (IsPlaced s) (set_places unit s.block_bytes (end_before before) (length before) es)
  placed_from before [] all = none_placed s unit s.block_bytes (end_before before) (length before)
  placed_from before (e ∷ es) all =
      let more : s.entries ≡ (before ++ e ∷ []) ++ es = all ∙ sym (append_assoc before (e ∷ []) es) in
      let next : length (before ++ e ∷ []) ≡ suc (length before) = (
      let n = length-append before (e ∷ []) in omega (arith, n)
      ) in
      let others = placed_from (before ++ e ∷ []) es more in
      elim (size_cases e.size) [
        | inl none ↦
            let end : end_before (before ++ e ∷ []) ≡ end_before before =
            end_of_append unit 0 before (e ∷ []) ∙ one_end unit (end_before before) e
            ∙ end_after_none unit (end_before before) e.size none in
            subst (λ (ps : List Place). All (IsPlaced s) ps)
            (sym (places-none unit s.block_bytes (end_before before) (length before) e es none))
            (rw (end, next) at others)
        | inr bytes ↦
            let end : end_before (before ++ e ∷ []) ≡ round_up unit (end_before before) + e.size =
            end_of_append unit 0 before (e ∷ []) ∙ one_end unit (end_before before) e
            ∙ end_after_some unit (end_before before) e.size bytes in
            subst (λ (ps : List Place). All (IsPlaced s) ps)
            (sym (places-some unit s.block_bytes (end_before before) (length before) e es bytes))
            (All-append (IsPlaced s) (file_places s.block_bytes (length before)
            (round_up unit (end_before before)) (round_up unit (end_before before) + e.size))
            (set_places unit s.block_bytes (round_up unit (end_before before) + e.size) (suc (length before)) es)
            (file_placed before e es all bytes) (rw (end, next) at others))
      ]

  -- Each place of a set lies in its file and in its block (`IsPlaced`).
  pub set_placed : All (IsPlaced s) (set_places unit s.block_bytes 0 0 s.entries)
  unfolding end_of
  set_placed = placed_from [] s.entries refl

-- All places of a set lie in their files and in their blocks.
pub placed_if : (s : FileSet) (places : List Place) → 0 < s.block_bytes
    → places ≡ set_places (unit_of s) s.block_bytes 0 0 s.entries → All (IsPlaced s) places
placed_if s places some same = subst (λ (ps : List Place). All (IsPlaced s) ps) (sym same) (set_placed s some)

-- ---- the steps of the loop over the entries

places-append : (unit size at index : ℕ) (es : List SetEntry) (e : SetEntry)
    → set_places unit size at index (es ++ e ∷ [])
    ≡ set_places unit size at index es ++ entry_places unit size (end_of unit at es) (index + length es) e.size
unfolding set_places end_of
places-append unit size at index [] e =
    let same : index ≡ index + 0 = omega arith in
    append-nil (entry_places unit size at index e.size) ∙ ap (λ (i : ℕ). entry_places unit size at i e.size) same
places-append unit size at index (f ∷ es) e =
    let end : ℕ = end_after unit at f.size in
    let same : suc index + length es ≡ index + suc (length es) = omega arith in
    rw (places-append unit size end (suc index) es e, same)
    (sym (append_assoc (entry_places unit size at index f.size) (set_places unit size end (suc index) es)
    (entry_places unit size (end_of unit end es) (index + suc (length es)) e.size)))

module _ (unit size : ℕ) (entries : List Entry) {n : ℕ} {entry : Entry} (h : n < length entries)
    (is : entry ≡ get_or entries n entry) where
  abbrev before : List SetEntry
  before = entries_of (take n entries)

  pub places_next : set_places unit size 0 0 (entries_of (take (n + 1) entries))
      ≡ set_places unit size 0 0 before ++ entry_places unit size (end_of unit 0 before) n entry.size
  places_next =
      let count : 0 + length before ≡ n = search (rules, length-map, length-take) in
      ap (set_places unit size 0 0) (entries_further entries h is)
      ∙ places-append unit size 0 0 before (entry_of entry)
      ∙ ap (λ (i : ℕ). set_places unit size 0 0 before ++ entry_places unit size (end_of unit 0 before) i entry.size)
      count

  pub end_next : end_of unit 0 (entries_of (take (n + 1) entries)) ≡ end_after unit (end_of unit 0 before) entry.size
  end_next =
      ap (end_of unit 0) (entries_further entries h is) ∙ end_of_append unit 0 before (entry_of entry ∷ [])
      ∙ one_end unit (end_of unit 0 before) (entry_of entry)

  -- If one file ends too late, the last one does.
  pub ends_too_late : 0 < unit → below_limit (end_after unit (end_of unit 0 before) entry.size) ≡ None
      → 2 ^ 62 ≤ end_of unit 0 (entries_of entries)
  ends_too_late some late =
      let after : List SetEntry = entries_of (drop (n + 1) entries) in
      let all : entries_of entries ≡ entries_of (take (n + 1) entries) ++ after =
      ap entries_of (sym (take-append-drop (n + 1) entries))
      ∙ map-append entry_of (take (n + 1) entries) (drop (n + 1) entries) in
      let here = was_not_below (end_after unit (end_of unit 0 before) entry.size) late in
      let grows = end_of_grows unit (end_of unit 0 (entries_of (take (n + 1) entries))) after some in
      let whole : end_of unit 0 (entries_of entries)
      ≡ end_of unit (end_of unit 0 (entries_of (take (n + 1) entries))) after =
      ap (end_of unit 0) all ∙ end_of_append unit 0 (entries_of (take (n + 1) entries)) after in
      let next = end_next in
      omega (arith, here, grows, whole, next)

  -- A file without bytes adds no place.
  pub next_none : entry.size ≡ 0 → set_places unit size 0 0 (entries_of (take (n + 1) entries))
      ≡ set_places unit size 0 0 before
  next_none none = places_next
      ∙ ap (λ (ps : List Place). set_places unit size 0 0 before ++ ps)
      (entry-none unit size (end_of unit 0 before) n entry.size none)
      ∙ append-nil (set_places unit size 0 0 before)

  -- Another file adds its places.
  pub next_some : (end : ℕ) → 0 < entry.size
      → below_limit (end_after unit (end_of unit 0 before) entry.size) ≡ Some end
      → set_places unit size 0 0 (entries_of (take (n + 1) entries))
      ≡ set_places unit size 0 0 before ++ file_places size n (end - entry.size) end
  next_some end some given =
      let b = was_below (end_after unit (end_of unit 0 before) entry.size) end given in
      let last : round_up unit (end_of unit 0 before) + entry.size ≡ end =
      sym (end_after_some unit (end_of unit 0 before) entry.size some) ∙ b.0 in
      let first : round_up unit (end_of unit 0 before) ≡ end - entry.size = omega (arith, last) in
      places_next
      ∙ ap (λ (ps : List Place). set_places unit size 0 0 before ++ ps)
      (entry-some unit size (end_of unit 0 before) n entry.size some
      ∙ ap (λ (m : ℕ). file_places size n (round_up unit (end_of unit 0 before)) m) last
      ∙ ap (λ (m : ℕ). file_places size n m end) first)

-- A file that is not empty is not longer than its end.
pub size_in_end : (unit at size end : ℕ) → 0 < size → below_limit (end_after unit at size) ≡ Some end → size ≤ end
size_in_end unit at size end some given =
    let b = was_below (end_after unit at size) end given in
    let last : end_after unit at size ≡ end = b.0 in
    let e = end_after_some unit at size some in
    omega (arith, last, e)

-- ---- all places

pub wrong_block : (s : FileSet) → allows_block s.block_bytes ≡ false → places_in s ≡ Err BlockSize
unfolding places_in
wrong_block s wrong = rw wrong refl

pub long_data : (s : FileSet) → allows_block s.block_bytes ≡ true → 2 ^ 62 ≤ end_of (unit_of s) 0 s.entries
    → places_in s ≡ Err Length
unfolding places_in data_of
long_data s good long = rw (good, le-leb _ _ long) refl

pub all_places : (s : FileSet) → allows_block s.block_bytes ≡ true → end_of (unit_of s) 0 s.entries < 2 ^ 62
    → places_in s ≡ Ok (set_places (unit_of s) s.block_bytes 0 0 s.entries)
unfolding places_in data_of
all_places s good short = rw (good, lt-leb _ _ short) refl

block_cases : (b : Bool) → (b ≡ true) ⊎ (b ≡ false)
block_cases true = inl refl
block_cases false = inr refl

-- If a set has places, the size of its blocks is allowed.
pub block_allowed : (s : FileSet) (places : List Place) → places_in s ≡ Ok places
    → (0 < s.block_bytes) × (s.block_bytes ≤ 2 ^ 40)
unfolding allows_block
block_allowed s places given =
    elim (block_cases (allows_block s.block_bytes)) [
      | inl good ↦
          let b = and_parts (nat_lt 0 s.block_bytes) (s.block_bytes % 2 == 0 && nat_le s.block_bytes (2 ^ 40)) good in
          let c = and_parts (s.block_bytes % 2 == 0) (nat_le s.block_bytes (2 ^ 40)) b.1 in
          (ltb-true 0 s.block_bytes b.0, leb-true s.block_bytes (2 ^ 40) c.1)
      | inr wrong ↦ absurd (let refused = wrong_block s wrong in let no : ⊥ = cc in no)
    ]
