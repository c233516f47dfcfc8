-- The steps of the loops that check names.
use Rattle.std.proofs.Common.{rules, ◌≡◌, ◌≢◌, ℕ, ◌+◌, ◌-◌, ◌<◌, ◌≤◌, true, false, eqb, ltb, List, [], ◌∷◌}
use Rattle.std.proofs.Common.{◌++◌, length, get_or, take, drop, drop-cons, refl, ap, ◌∙◌, add-one, arith, inl, inr}
use Rattle.std.specs.List.{between}
use Rattle.std.proofs.lemmas.Bool.{lt-ltb, le-ltb, cases_lt}
use Rattle.std.proofs.lemmas.List.{take_more, get_or-drop, length-drop, drop_all}
use Rattle.std.proofs.lemmas.List.Edits.{between_none}
use Rattle.rs_volumes.specs.Names.{is_part, has_parts, rank, is_before, is_folder_of}

-- ---- the parts of a name

pub zero_ends : (part name : List ℕ) (i : ℕ) → i < length name → get_or name i 0 ≡ 0
    → has_parts part (drop i name) ≡ false
unfolding has_parts
zero_ends part name i h z = rw (drop-cons name i 0 h, z) refl

pub slash_goes : (part name : List ℕ) (i : ℕ) → i < length name → get_or name i 0 ≡ 47 → is_part part ≡ true
    → has_parts part (drop i name) ≡ has_parts [] (drop (i + 1) name)
unfolding has_parts
slash_goes part name i h z p = rw (drop-cons name i 0 h, z, p, add-one) refl

pub slash_ends : (part name : List ℕ) (i : ℕ) → i < length name → get_or name i 0 ≡ 47 → is_part part ≡ false
    → has_parts part (drop i name) ≡ false
unfolding has_parts
slash_ends part name i h z p = rw (drop-cons name i 0 h, z, p) refl

pub byte_goes : (part name : List ℕ) (i : ℕ) → i < length name → get_or name i 0 ≢ 0 → get_or name i 0 ≢ 47
    → has_parts part (drop i name) ≡ has_parts (part ++ get_or name i 0 ∷ []) (drop (i + 1) name)
unfolding has_parts
byte_goes part name i h z s = search (rules, drop-cons)

pub between_further : (name : List ℕ) (start i : ℕ) → start ≤ i → i < length name
    → between start (i + 1) name ≡ between start i name ++ get_or name i 0 ∷ []
between_further name start i le h =
    let n : i + 1 - start ≡ (i - start) + 1 = omega arith in
    let here : start + (i - start) ≡ i = omega arith in
    let inside : i - start < length (drop start name) = omega (arith, length-drop start name) in
    rw n (take_more (drop start name) (i - start) 0 inside
    ∙ ap (λ (x : ℕ). take (i - start) (drop start name) ++ x ∷ [])
    (get_or-drop start name (i - start) 0 ∙ ap (λ (k : ℕ). get_or name k 0) here))

pub parts_end : (part name : List ℕ) (i : ℕ) → length name ≤ i → has_parts part (drop i name) ≡ is_part part
unfolding has_parts
parts_end part name i h = rw (drop_all i name h) refl

-- the steps of the loop over the bytes of a name
pub ruleset steps_in_parts =
    (zero_ends, slash_goes, slash_ends, byte_goes, between_further, between_none, parts_end)

-- ---- the order of names

pub before_further : (one other : List ℕ) (i : ℕ) → i < length one → i < length other
    → get_or one i 0 ≡ get_or other i 0
    → is_before (drop i one) (drop i other) ≡ is_before (drop (i + 1) one) (drop (i + 1) other)
unfolding is_before
before_further one other i h k e = search (rules, drop-cons)

pub before_differs : (one other : List ℕ) (i : ℕ) → i < length one → i < length other
    → get_or one i 0 ≢ get_or other i 0
    → is_before (drop i one) (drop i other) ≡ ltb (rank (get_or one i 0)) (rank (get_or other i 0))
unfolding is_before
before_differs one other i h k e = search (rules, drop-cons)

pub before_longer : (one other : List ℕ) (i : ℕ) → i < length one → length other ≤ i
    → is_before (drop i one) (drop i other) ≡ false
unfolding is_before
before_longer one other i h k = rw (drop-cons one i 0 h, drop_all i other k) refl

pub before_ends : (one other : List ℕ) (i : ℕ) → length one ≡ i
    → is_before (drop i one) (drop i other) ≡ ltb (length one) (length other)
unfolding is_before
before_ends one other i h =
    let ended : length one ≤ i = omega arith in
    elim (cases_lt (length one) (length other)) [
      | inl lt ↦
          let inside : i < length other = omega arith in
          let yes : ltb (length one) (length other) ≡ true = lt-ltb _ _ lt in
          rw (drop_all i one ended, drop-cons other i 0 inside, yes) refl
      | inr le ↦
          let outside : length other ≤ i = omega arith in
          let no : ltb (length one) (length other) ≡ false = le-ltb _ _ le in
          rw (drop_all i one ended, drop_all i other outside, no) refl
    ]

-- the steps of the loop that compares two names
pub ruleset steps_in_order = (before_further, before_differs, before_longer, before_ends)

-- ---- folders

pub folder_further : (one other : List ℕ) (i : ℕ) → i < length one → i < length other
    → get_or one i 0 ≡ get_or other i 0
    → is_folder_of (drop i one) (drop i other) ≡ is_folder_of (drop (i + 1) one) (drop (i + 1) other)
unfolding is_folder_of
folder_further one other i h k e = search (rules, drop-cons)

pub folder_differs : (one other : List ℕ) (i : ℕ) → i < length one → i < length other
    → get_or one i 0 ≢ get_or other i 0 → is_folder_of (drop i one) (drop i other) ≡ false
unfolding is_folder_of
folder_differs one other i h k e = search (rules, drop-cons)

pub folder_longer : (one other : List ℕ) (i : ℕ) → i < length one → length other ≤ i
    → is_folder_of (drop i one) (drop i other) ≡ false
unfolding is_folder_of
folder_longer one other i h k = rw (drop-cons one i 0 h, drop_all i other k) refl

pub folder_ends : (one other : List ℕ) (i : ℕ) → length one ≡ i → i < length other
    → is_folder_of (drop i one) (drop i other) ≡ eqb (get_or other (length one) 0) 47
unfolding is_folder_of
folder_ends one other i h inside =
    let ended : length one ≤ i = omega arith in
    rw (drop_all i one ended, drop-cons other i 0 inside, h) refl

pub folder_is_all : (one other : List ℕ) (i : ℕ) → length one ≡ i → length other ≤ i
    → is_folder_of (drop i one) (drop i other) ≡ false
unfolding is_folder_of
folder_is_all one other i h outside =
    let ended : length one ≤ i = omega arith in
    rw (drop_all i one ended, drop_all i other outside) refl

-- the steps of the loop that looks for a folder
pub ruleset steps_in_folder = (folder_further, folder_differs, folder_longer, folder_ends, folder_is_all)
