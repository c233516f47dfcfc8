-- Marked originals are noted one after another, and none of them is an error.
use Rattle.std.proofs.Common.{rules, ◌≡◌, ℕ, ◌+◌, ◌≤◌, ◌<◌, ◌==◌, Bool, true, false, suc, not, List, [], ◌∷◌, length}
use Rattle.std.proofs.Common.{take, drop, ◌*◌, cond, sym, nat_eq, inl, inr, Ok, ap, ◌∙◌, refl, arith}
use Rattle.std.proofs.lemmas.Bool.{cases_eq, eq-eqb, ne_eqb, lt-leb}
use Rattle.std.proofs.Math.Nat.{suc-mul}
use Rattle.std.proofs.lemmas.List.{length-drop, length-take-le}
use Rattle.std.proofs.lemmas.List.Recursion.{is_count_by}
use Rattle.std.specs.List.{count_by, list_any}
use Rattle.rs_field.specs.code.Column.{Shard}
use Rattle.rs_field.specs.code.Outcome.{result_and_then}
use Rattle.rs_field.specs.code.OneCall.{Items, one_by_one, note_outcome, originals_alone}
use Rattle.rs_ffi.specs.Answers.{all_or_refused}
use Rattle.rs_ffi.specs.Buffers.{marked_shards}

-- the number of marks that are not 0
abbrev pub present : List ℕ → ℕ
present [] = 0
present (mark ∷ marks) = cond (not (mark == 0)) (1 + present marks) (present marks)

-- The number of marks that are not 0 is at most the number of marks.
pub present-most : (marks : List ℕ) → present marks ≤ length marks
present-most [] = omega arith
present-most (mark ∷ marks) = by_mark (mark == 0) (present-most marks)
  where
    by_mark : (zero_here : Bool) → present marks ≤ length marks
        → cond (not zero_here) (1 + present marks) (present marks) ≤ suc (length marks)
    by_mark true others = omega (arith, others)
    by_mark false others = omega (arith, others)

-- `count_by` counts the marks that are not 0.
pub count-present : (marks : List ℕ) → present marks ≡ count_by (λ mark. not (mark == 0)) marks
count-present marks = is_count_by present (λ mark. not (mark == 0)) refl (λ mark others. refl) marks

-- The first marked shard has the shard size.
pub marked-sized : (i size : ℕ) (marks bytes : List ℕ) (first : ℕ × Shard) (rest : Items)
    → length bytes ≡ length marks * size → marked_shards i size marks bytes ≡ first ∷ rest → length first.1 ≡ size
marked-sized i size [] bytes first rest sized is = absurd (let no : ⊥ = cc in no)
marked-sized i size (mark ∷ marks) bytes first rest sized is =
    let more = suc-mul (length marks) size in
    elim (cases_eq mark 0) [
      | inl lost ↦ marked-sized (i + 1) size marks (drop size bytes) first rest
          (length-drop size bytes ∙ omega (arith, sized, more)) (rw (eq-eqb mark 0 lost) at is)
      | inr kept ↦
          let there = rw (ne_eqb mark 0 kept) at is in let same : (i, take size bytes) ≡ first = cc in
          ap (λ (item : ℕ × Shard). length item.1) (sym same) ∙ length-take-le size bytes (omega (arith, sized, more))
    ]

-- If a mark is not 0, there is a marked shard.
pub marked-some : (i size : ℕ) (marks bytes : List ℕ) → 0 < present marks → marked_shards i size marks bytes ≡ [] → ⊥
marked-some i size [] bytes some is = omega (arith, some)
marked-some i size (mark ∷ marks) bytes some is = elim (cases_eq mark 0) [
  | inl lost ↦ marked-some (i + 1) size marks (drop size bytes) (rw (eq-eqb mark 0 lost) at some)
      (rw (eq-eqb mark 0 lost) at is)
  | inr kept ↦ let there = rw (ne_eqb mark 0 kept) at is in cc
]

-- no index from i on is in the list of noted indexes
abbrev IsBelow : ℕ → List ℕ → Type 0
IsBelow i given = (j : ℕ) → i ≤ j → list_any (nat_eq j) given ≡ false

-- Noting an index succeeds if the index is below k and was not noted before.
note_outcome-next : (k i : ℕ) (given : List ℕ) → i < k → IsBelow i given → note_outcome k given i ≡ Ok (i ∷ given)
note_outcome-next k i given inside below = rw (lt-leb k i inside, below i (omega arith)) refl

-- If no index from i on was noted, then after i was noted no index from i + 1 on was noted.
below-next : (i : ℕ) (given : List ℕ) → IsBelow i given → IsBelow (i + 1) (i ∷ given)
below-next i given below j h = search rules

-- noting the indexes of these items succeeds, and `count` more indexes are noted afterwards
abbrev NotesAll : ℕ → List ℕ → Items → ℕ → Type 0
NotesAll k given items count =
    (all : List ℕ) × (one_by_one (λ so_far item. note_outcome k so_far item.0) given items ≡ Ok all)
    × (length all ≡ length given + count)

-- Noting the indexes of the marked originals from index i on succeeds, and notes as many indexes as there are marks
-- that are not 0.
notes-all : (k i size : ℕ) (marks bytes given : List ℕ) → i + length marks ≡ k → IsBelow i given
    → NotesAll k given (marked_shards i size marks bytes) (present marks)
notes-all k i size [] bytes given ends below = (given, refl, omega arith)
notes-all k i size (mark ∷ marks) bytes given ends below = elim (cases_eq mark 0) [
  | inl lost ↦ rw (eq-eqb mark 0 lost)
      (notes-all k (i + 1) size marks (drop size bytes) given (omega (arith, ends)) (λ j h. below j (omega (arith, h))))
  | inr kept ↦
      let others = notes-all k (i + 1) size marks (drop size bytes) (i ∷ given) (omega (arith, ends))
      (below-next i given below) in
      rw (ne_eqb mark 0 kept)
      (others.0, rw (note_outcome-next k i given (omega (arith, ends)) below) others.1, others.2 ∙ omega arith)
]

-- The check that all originals are given returns a result that depends only on the number of marks that are not 0.
pub originals_alone-marked : (k size : ℕ) (marks bytes : List ℕ) → length marks ≡ k
    → originals_alone k (marked_shards 0 size marks bytes) ≡ all_or_refused k (count_by (λ mark. not (mark == 0)) marks)
originals_alone-marked k size marks bytes many =
    let notes = notes-all k 0 size marks bytes [] (omega (arith, many)) (λ j h. refl) in
    let counted : length notes.0 ≡ count_by (λ mark. not (mark == 0)) marks =
    notes.2 ∙ (let e : 0 + present marks ≡ present marks = omega arith in e) ∙ count-present marks
    in
    ap (result_and_then (λ (given : List ℕ). all_or_refused k (length given))) notes.1
    ∙ ap (all_or_refused k) counted
