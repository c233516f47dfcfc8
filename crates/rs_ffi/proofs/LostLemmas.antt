-- Lemmas about the indexes of marks that are 0, and about the places of their shards in a buffer.
use Rattle.std.proofs.Common.{rules, ◌≡◌, ℕ, zero, suc, ◌+◌, ◌*◌, ◌<◌, ◌≤◌, List, [], ◌∷◌, ◌++◌, length, map, take}
use Rattle.std.proofs.Common.{drop, get_or, refl, sym, ap, ◌∙◌, inl, inr, arith}
use Rattle.std.proofs.Math.Nat.{suc-mul}
use Rattle.std.proofs.lemmas.Bool.{cases_eq, eq-eqb, ne_eqb}
use Rattle.std.proofs.lemmas.List.{append_assoc, drop_all, drop_more, take-append-drop, length-drop, nil_from_length}
use Rattle.std.proofs.lemmas.List.{drop-drop}
use Rattle.std.specs.Prelude.{unwrap_or}
use Rattle.rs_field.specs.code.Given.{Shards}
use Rattle.rs_ffi.specs.Buffers.{lost_indexes, shard_place, with_restored}
use Rattle.rs_ffi.proofs.MarkedLemmas.{present}

-- The number of lost indexes and the number of marks that are not 0 add up to the number of marks.
pub lost-count : (i : ℕ) (marks : List ℕ) → length (lost_indexes i marks) + present marks ≡ length marks
lost-count i [] = refl
lost-count i (mark ∷ marks) = elim (cases_eq mark 0) [
  | inl lost ↦ let others = lost-count (i + 1) marks in rw (eq-eqb mark 0 lost) (omega (arith, others))
  | inr kept ↦ let others = lost-count (i + 1) marks in rw (ne_eqb mark 0 kept) (omega (arith, others))
]

-- If mark i is 0, i is the next lost index.
pub lost-next : (i : ℕ) (marks so_far : List ℕ) → i < length marks → get_or marks i 0 ≡ 0
    → (so_far ++ (i ∷ [])) ++ lost_indexes (i + 1) (drop (i + 1) marks) ≡ so_far ++ lost_indexes i (drop i marks)
lost-next i marks so_far inside lost = search (rules, append_assoc, drop_more)

-- If mark i is not 0, i is no lost index.
pub kept-next : (i : ℕ) (marks : List ℕ) → i < length marks → (get_or marks i 0 ≡ 0 → ⊥)
    → lost_indexes (i + 1) (drop (i + 1) marks) ≡ lost_indexes i (drop i marks)
kept-next i marks inside kept = search (rules, drop_more)

-- After the last mark, all lost indexes are found.
pub lost-end : (i : ℕ) (marks found : List ℕ) → length marks ≤ i
    → found ++ lost_indexes i (drop i marks) ≡ lost_indexes 0 marks → found ≡ lost_indexes 0 marks
lost-end i marks found past is = search (rules, drop_all)

-- a lost index is the index of a mark that is 0
abbrev IsLost : ℕ → List ℕ → ℕ → ℕ → Type 0
IsLost i marks lost j = (lost ≡ i + j) × (j < length marks) × (get_or marks j 0 ≡ 0)

abbrev AreLost : ℕ → List ℕ → List ℕ → Type 0
AreLost i marks indexes = (n : ℕ) → n < length indexes → (j : ℕ) × IsLost i marks (get_or indexes n 0) j

lost-later : (i mark : ℕ) (marks indexes : List ℕ) → AreLost (i + 1) marks indexes → AreLost i (mark ∷ marks) indexes
lost-later i mark marks indexes rest n inside =
    let (j, (same, below, zero_here)) = rest n inside in (suc j, (omega (arith, same), omega (arith, below), zero_here))

lost-first : (i mark : ℕ) (marks indexes : List ℕ) → mark ≡ 0 → AreLost i (mark ∷ marks) indexes
    → AreLost i (mark ∷ marks) (i ∷ indexes)
lost-first i mark marks indexes lost rest zero inside = (0, (omega arith, omega arith, lost))
lost-first i mark marks indexes lost rest (suc n) inside = rest n (omega (arith, inside))

pub lost-mark : (i : ℕ) (marks : List ℕ) → AreLost i marks (lost_indexes i marks)
lost-mark i [] = λ n inside. absurd (let no : ⊥ = omega (arith, inside) in no)
lost-mark i (mark ∷ marks) = elim (cases_eq mark 0) [
  | inl lost ↦
      let all = lost-first i mark marks (lost_indexes (i + 1) marks) lost
      (lost-later i mark marks (lost_indexes (i + 1) marks) (lost-mark (i + 1) marks)) in
      rw (eq-eqb mark 0 lost) all
  | inr kept ↦ let all = lost-later i mark marks (lost_indexes (i + 1) marks) (lost-mark (i + 1) marks) in
      rw (ne_eqb mark 0 kept) all
]

-- each number of a list is larger than the numbers before it
abbrev Grow : List ℕ → Type 0
Grow indexes = (n m : ℕ) → n < m → m < length indexes → get_or indexes n 0 < get_or indexes m 0

grow-first : (i : ℕ) (marks indexes : List ℕ) → AreLost (i + 1) marks indexes → Grow indexes → Grow (i ∷ indexes)
grow-first i marks indexes lost grow n zero order inside = absurd (let no : ⊥ = omega (arith, order) in no)
grow-first i marks indexes lost grow zero (suc m) order inside = let (j, (same, below, zero_here)) =
    lost m (omega (arith, inside)) in omega (arith, same)
grow-first i marks indexes lost grow (suc n) (suc m) order inside =
    grow n m (omega (arith, order)) (omega (arith, inside))

-- Each lost index is larger than the lost indexes before it.
pub lost-grow : (i : ℕ) (marks : List ℕ) → Grow (lost_indexes i marks)
lost-grow i [] = λ n m order inside. absurd (let no : ⊥ = omega (arith, inside) in no)
lost-grow i (mark ∷ marks) = elim (cases_eq mark 0) [
  | inl lost ↦
      let all = grow-first i marks (lost_indexes (i + 1) marks) (lost-mark (i + 1) marks) (lost-grow (i + 1) marks) in
      rw (eq-eqb mark 0 lost) all
  | inr kept ↦ let all = lost-grow (i + 1) marks in rw (ne_eqb mark 0 kept) all
]

-- If each number of a list is larger than the numbers before it, numbers at different places are different.
pub grow-apart : (indexes : List ℕ) → Grow indexes → (n m : ℕ) → n < length indexes → m < length indexes → (n ≡ m → ⊥)
    → get_or indexes n 0 ≡ get_or indexes m 0 → ⊥
grow-apart indexes grow n m inside there other same = search rules

-- If two functions have the same values on the list of lost indexes, they have the same value at each lost index.
module _ {T : Type 0} (f g : ℕ → T) where
  abbrev Agree : ℕ → List ℕ → Type 0
  Agree i marks = (j : ℕ) → j < length marks → get_or marks j 0 ≡ 0 → f (i + j) ≡ g (i + j)

  agree-later : (i mark : ℕ) (marks : List ℕ) → (mark ≡ 0 → f i ≡ g i) → Agree (i + 1) marks → Agree i (mark ∷ marks)
  agree-later i mark marks here rest zero inside lost =
      let step : i ≡ i + 0 = omega arith in ap f (sym step) ∙ here lost ∙ ap g step
  agree-later i mark marks here rest (suc j) inside lost =
      let step : i + 1 + j ≡ i + suc j = omega arith in ap f (sym step) ∙ rest j (omega (arith, inside)) lost
      ∙ ap g step

  pub lost-same : (i : ℕ) (marks : List ℕ) → map f (lost_indexes i marks) ≡ map g (lost_indexes i marks) → Agree i marks
  lost-same i [] same = λ j inside lost. absurd (let no : ⊥ = omega (arith, inside) in no)
  lost-same i (mark ∷ marks) same = elim (cases_eq mark 0) [
    | inl lost ↦
        let all : f i ∷ map f (lost_indexes (i + 1) marks) ≡ g i ∷ map g (lost_indexes (i + 1) marks) =
        rw (eq-eqb mark 0 lost) at same in
        let here : f i ≡ g i = cc in
        let others : map f (lost_indexes (i + 1) marks) ≡ map g (lost_indexes (i + 1) marks) = cc in
        agree-later i mark marks (λ zero_here. here) (lost-same (i + 1) marks others)
    | inr kept ↦
        let others : map f (lost_indexes (i + 1) marks) ≡ map g (lost_indexes (i + 1) marks) =
        rw (ne_eqb mark 0 kept) at same in
        agree-later i mark marks (λ zero_here. absurd (kept zero_here)) (lost-same (i + 1) marks others)
  ]

-- Place j of the buffer without its first shard is place j + 1 of the whole buffer.
pub place-next : (size j : ℕ) (bytes : List ℕ) → shard_place size (drop size bytes) j ≡ shard_place size bytes (suc j)
place-next size j bytes = search (rules, drop-drop)

-- Place 0 of a buffer consists of its first bytes.
pub place-first : (size : ℕ) (bytes : List ℕ) → shard_place size bytes 0 ≡ take size bytes
place-first size bytes = search rules

-- If each place of a buffer holds the restored original of its index, or what the old buffer holds if there is none,
-- the buffer is the old buffer with the restored originals.
pub with-placed : (restored : Shards) (i size n : ℕ) (old new : List ℕ) → length new ≡ n * size
    → ((j : ℕ) → j < n → shard_place size new j ≡ unwrap_or (restored (i + j)) (shard_place size old j))
    → new ≡ with_restored restored i size n old
with-placed restored i size zero old new whole each = nil_from_length new (omega (arith, whole))
with-placed restored i size (suc n) old new whole each =
    let more = suc-mul n size in
    let left = length-drop size new in
    let none : i + 0 ≡ i = omega arith in
    let first : take size new ≡ unwrap_or (restored i) (take size old) =
    sym (place-first size new) ∙ each 0 (omega arith)
    ∙ ap (λ (m : ℕ). unwrap_or (restored m) (shard_place size old 0)) none
    ∙ ap (λ (l : List ℕ). unwrap_or (restored i) l) (place-first size old) in
    sym (take-append-drop size new)
    ∙ ap (λ (l : List ℕ). l ++ drop size new) first
    ∙ ap (λ (l : List ℕ). unwrap_or (restored i) (take size old) ++ l)
    (with-placed restored (i + 1) size n (drop size old) (drop size new) (omega (arith, whole, more, left)) (λ j inside.
    let step : i + suc j ≡ i + 1 + j = omega arith in
    place-next size j new ∙ each (suc j) (omega (arith, inside))
    ∙ ap (λ (m : ℕ). unwrap_or (restored m) (shard_place size old (suc j))) step
    ∙ ap (λ (l : List ℕ). unwrap_or (restored (i + 1 + j)) l) (sym (place-next size j old))))
