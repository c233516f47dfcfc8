-- The steps of the loops that check the names and files of version 1.
use Rattle.std.proofs.Common.{rules, ◌≡◌, ◌≢◌, ℕ, ◌+◌, ◌-◌, ◌^◌, ◌<◌, ◌≤◌, Bool, true, false, eqb, ltb, List, [], ◌∷◌}
use Rattle.std.proofs.Common.{length, get_or, drop, drop-cons, Ok, Err, refl, ap, ◌∙◌, arith, inl, inr}
use Rattle.std.proofs.lemmas.Bool.{lt-ltb, le-ltb, cases_lt, le-leb, lt-leb}
use Rattle.std.proofs.lemmas.List.{drop_all}
use Rattle.std.proofs.lemmas.Str.{IsUtf8-from_is_utf8}
use Rattle.std.specs.Str.{IsUtf8, is_utf8}
use Rattle.rs_volumes.specs.Description.{SetEntry, entry_of, entries_of}
use Rattle.rs_volumes.specs.declared.description.Entry.{Entry}
use Rattle.rs_volumes.specs.declared.fault.Fault.TheVariants.{Length, Name, Order}
use Rattle.rs_volumes.specs.Data.{blocks_of, round_up}
use Rattle.rs_volumes.specs.First.{comes_before, is_first_name, blocks_in, exceeds, files_outcome}

-- ---- the order of names

pub before_further : (one other : List ℕ) (i : ℕ) → i < length one → i < length other
    → get_or one i 0 ≡ get_or other i 0
    → comes_before (drop i one) (drop i other) ≡ comes_before (drop (i + 1) one) (drop (i + 1) other)
unfolding comes_before
before_further one other i h k e = search (rules, drop-cons)

pub before_differs : (one other : List ℕ) (i : ℕ) → i < length one → i < length other
    → get_or one i 0 ≢ get_or other i 0
    → comes_before (drop i one) (drop i other) ≡ ltb (get_or one i 0) (get_or other i 0)
unfolding comes_before
before_differs one other i h k e = search (rules, drop-cons)

pub before_longer : (one other : List ℕ) (i : ℕ) → i < length one → length other ≤ i
    → comes_before (drop i one) (drop i other) ≡ false
unfolding comes_before
before_longer one other i h k = rw (drop-cons one i 0 h, drop_all i other k) refl

pub before_ends : (one other : List ℕ) (i : ℕ) → length one ≡ i
    → comes_before (drop i one) (drop i other) ≡ ltb (length one) (length other)
unfolding comes_before
before_ends one other i h =
    let ended : length one ≤ i = omega arith in
    elim (cases_lt (length one) (length other)) [
      | inl lt ↦
          let inside : i < length other = omega arith in
          let yes : ltb (length one) (length other) ≡ true = lt-ltb _ _ lt in
          rw (drop_all i one ended, drop-cons other i 0 inside, yes) refl
      | inr le ↦
          let outside : length other ≤ i = omega arith in
          let no : ltb (length one) (length other) ≡ false = le-ltb _ _ le in
          rw (drop_all i one ended, drop_all i other outside, no) refl
    ]

-- the steps of the loop that compares two names
pub ruleset steps_in_order = (before_further, before_differs, before_longer, before_ends)

-- ---- UTF-8

by_test : (b : Bool) → (b ≡ true → ⊥) → b ≡ false
by_test true h = absurd (h refl)
by_test false h = refl

pub is_no_text : (bs : List ℕ) → (IsUtf8 bs → ⊥) → is_utf8 bs ≡ false
is_no_text bs never = by_test (is_utf8 bs) (λ e. never (IsUtf8-from_is_utf8 bs e))

-- ---- the blocks of files

drop_item : {X : Type 0} (xs : List X) (i : ℕ) (x : X) → i < length xs → x ≡ get_or xs i x
    → drop i xs ≡ x ∷ drop (i + 1) xs
drop_item xs i x h e = search (rules, drop-cons)

equal_after : (a b left : ℕ) → a ≤ left → eqb (a + b) left ≡ eqb b (left - a)
equal_after a b left h = search rules

fills_further : (block : ℕ) (file : SetEntry) (rest : List SetEntry) (left : ℕ) → blocks_of block file.size ≤ left
    → eqb (blocks_in block (file ∷ rest)) left ≡ eqb (blocks_in block rest) (left - blocks_of block file.size)
unfolding blocks_in
fills_further block file rest left h = equal_after (blocks_of block file.size) (blocks_in block rest) left h

fills_not : (block : ℕ) (file : SetEntry) (rest : List SetEntry) (left : ℕ) → left < blocks_of block file.size
    → eqb (blocks_in block (file ∷ rest)) left ≡ false
unfolding blocks_in
fills_not block file rest left h = search rules

fills_end : (block left : ℕ) → eqb (blocks_in block []) left ≡ eqb left 0
unfolding blocks_in
fills_end block left = search rules

-- ---- a file in a list of entries

module _ (files : List Entry) {i : ℕ} {file : Entry} (h : i < length files)
    (e : file ≡ get_or files i file) where
  cut : entries_of (drop i files) ≡ entry_of file ∷ entries_of (drop (i + 1) files)
  cut = ap entries_of (drop_item files i file h e)

  pub fills_at : (block left : ℕ) → blocks_of block file.size ≤ left
      → eqb (blocks_in block (entries_of (drop i files))) left ≡ eqb (blocks_in block (entries_of (drop (i + 1) files)))
      (left - blocks_of block file.size)
  fills_at block left le = search (rules, cut, fills_further)

  pub overfills_at : (block left : ℕ) → left < blocks_of block file.size
      → eqb (blocks_in block (entries_of (drop i files))) left ≡ false
  overfills_at block left lt = search (rules, cut, fills_not)

  pub exceeds_at : (block : ℕ) → round_up 4096 file.size < block
      → exceeds block (entries_of (drop i files)) ≡ exceeds block (entries_of (drop (i + 1) files))
  unfolding exceeds
  exceeds_at block lt = ap (exceeds block) cut ∙ rw (lt-ltb _ _ lt) refl

  pub exceeds_not : (block : ℕ) → block ≤ round_up 4096 file.size
      → exceeds block (entries_of (drop i files)) ≡ false
  unfolding exceeds
  exceeds_not block le = ap (exceeds block) cut ∙ rw (le-ltb _ _ le) refl

  pub length_fault : (previous : List ℕ) → 2 ^ 62 ≤ file.size
      → files_outcome previous (entries_of (drop i files)) ≡ Err Length
  unfolding files_outcome
  length_fault previous le = ap (files_outcome previous) cut ∙ rw (le-leb _ _ le) refl

  module _ (short : file.size < 2 ^ 62) where
    pub name_fault : (previous : List ℕ) → is_first_name file.name.items ≡ false
        → files_outcome previous (entries_of (drop i files)) ≡ Err Name
    unfolding files_outcome
    name_fault previous bad = ap (files_outcome previous) cut ∙ rw (lt-leb _ _ short, bad) refl

    pub order_fault : (previous : List ℕ) → is_first_name file.name.items ≡ true
        → comes_before previous file.name.items ≡ false
        → files_outcome previous (entries_of (drop i files)) ≡ Err Order
    unfolding files_outcome
    order_fault previous good bad = ap (files_outcome previous) cut ∙ rw (lt-leb _ _ short, good, bad) refl

    pub passes_at : (previous : List ℕ) → is_first_name file.name.items ≡ true
        → comes_before previous file.name.items ≡ true
        → files_outcome previous (entries_of (drop i files))
        ≡ files_outcome file.name.items (entries_of (drop (i + 1) files))
    unfolding files_outcome
    passes_at previous good later = ap (files_outcome previous) cut ∙ rw (lt-leb _ _ short, good, later) refl

pub fills_past : (files : List Entry) (i block left : ℕ) → length files ≤ i
    → eqb (blocks_in block (entries_of (drop i files))) left ≡ eqb left 0
fills_past files i block left h = rw (drop_all i files h) (fills_end block left)

pub exceeds_past : (files : List Entry) (i block : ℕ) → length files ≤ i
    → exceeds block (entries_of (drop i files)) ≡ true
unfolding exceeds
exceeds_past files i block h = rw (drop_all i files h) refl

pub passes_past : (files : List Entry) (i : ℕ) (previous : List ℕ) → length files ≤ i
    → files_outcome previous (entries_of (drop i files)) ≡ Ok tt
unfolding files_outcome
passes_past files i previous h = rw (drop_all i files h) refl
