-- A list of shards with their indexes is entered in a map, one after another.
use Rattle.std.proofs.Common.{rules, ◌≡◌, ℕ, zero, suc, ◌+◌, ◌<◌, ◌≤◌, ◌||◌, Bool, true, false, cond, List, [], ◌∷◌}
use Rattle.std.proofs.Common.{length, map, refl, sym, ap, ap₂, ◌∙◌, inl, inr, arith, nat_eq}
use Rattle.std.specs.Prelude.{None, is_some}
use Rattle.std.specs.List.{AllByRecursion, IsDistinct, list_any}
use Rattle.std.proofs.Math.Bool.{or_assoc}
use Rattle.std.proofs.lemmas.Bool.{cases_eq, eqb-false}
use Rattle.std.proofs.lemmas.Map.Keys.{IsDistinct-head, IsDistinct-tail}
use Rattle.std.proofs.lemmas.Grind.{common_steps}
use Rattle.rs_field.specs.code.Column.{Shard, shard_at}
use Rattle.rs_field.specs.code.Given.{Shards, nothing, with_entry, count_below, AreAmong}
use Rattle.rs_field.specs.code.OneCall.{Items}
use Rattle.rs_field.proofs.code_lemmas.Given.{entered_cases, entered_among, count_below-zero, count_below-suc}
use Rattle.rs_field.proofs.code_lemmas.Given.{count_below-same}

-- The map after all items were entered, in order.
abbrev pub entered_all : Shards → Items → Shards
entered_all given [] = given
entered_all given (item ∷ items) = entered_all (with_entry given item.0 item.1) items

-- The map has no shard at the indexes of the items.
abbrev pub AreFree : Shards → Items → Type 0
AreFree given items = AllByRecursion (λ item. given item.0 ≡ None) items

-- The indexes of the items.
abbrev pub indexes : Items → List ℕ
indexes items = map (λ item. item.0) items

-- The empty map has no shard.
pub count-nothing : (n : ℕ) → count_below n nothing ≡ 0
unfolding count_below
count-nothing zero = refl
count-nothing (suc n) = ap (λ (m : ℕ). m + 0) (count-nothing n)

-- An entry at another index leaves an index free.
entered_free : (given : Shards) (k i : ℕ) (x : Shard) → nat_eq k i ≡ false → given i ≡ None
    → with_entry given k x i ≡ None
entered_free given k i x apart free = search (rules, entered_cases, eqb-false)

-- An entry at another index leaves the indexes of all items free.
pub free-entered : (given : Shards) (k : ℕ) (x : Shard) (items : Items)
    → AllByRecursion (λ i. nat_eq k i ≡ false) (indexes items) → AreFree given items
    → AreFree (with_entry given k x) items
free-entered given k x [] apart free = tt
free-entered given k x (item ∷ items) apart free =
    (entered_free given k item.0 x apart.0 free.0, free-entered given k x items apart.1 free.1)

-- After the first of items with distinct indexes is entered, the indexes of the other items are free.
pub free-next : (given : Shards) (item : ℕ × Shard) (items : Items) → IsDistinct nat_eq (indexes (item ∷ items))
    → AreFree given (item ∷ items) → AreFree (with_entry given item.0 item.1) items
free-next given item items once free = search (rules, free-entered, IsDistinct-head)

-- An entry at a free index adds one to the number of shards.
pub count-entered : (n : ℕ) (given : Shards) (k : ℕ) (x : Shard) → k < n → given k ≡ None
    → count_below n (with_entry given k x) ≡ count_below n given + 1
count-entered zero given k x inside free = absurd (let no : ⊥ = omega arith in no)
count-entered (suc n) given k x inside free =
    elim (cases_eq n k) [
      | inl last ↦
          let rest : count_below n (with_entry given k x) ≡ count_below n given =
          count_below-same n (with_entry given k x) given
          (λ i below. elim (entered_cases given k i x)
          [ inl e ↦ absurd (let no : ⊥ = omega (arith, e.0) in no) | inr other ↦ other.1 ]) in
          count_below-suc n (with_entry given k x)
          ∙ ap₂ (λ m b. m + cond b 1 0) rest
          (elim (entered_cases given k n x) [ inl e ↦ ap is_some e.1 | inr other ↦ absurd (other.0 last) ])
          ∙ sym (ap (λ m. m + 1) (count_below-suc n given
          ∙ ap (λ b. count_below n given + cond b 1 0) (ap (λ i. is_some (given i)) last ∙ ap is_some free)
          ∙ omega arith))
      | inr less ↦
          let same : with_entry given k x n ≡ given n =
          elim (entered_cases given k n x) [ inl e ↦ absurd (less e.0) | inr other ↦ other.1 ] in
          omega (
            arith,
            count-entered n given k x (omega arith) free,
            count_below-suc n (with_entry given k x),
            count_below-suc n given,
            ap {B = ℕ} (λ o. cond (is_some o) 1 0) same,
          )
    ]

-- Entering items at distinct free indexes adds the number of items to the number of shards.
pub count-entered_all : (n : ℕ) (items : Items) (given : Shards) → AllByRecursion (λ item. item.0 < n) items
    → AreFree given items → IsDistinct nat_eq (indexes items)
    → count_below n (entered_all given items) ≡ count_below n given + length items
count-entered_all n [] given below free once = omega arith
count-entered_all n (item ∷ items) given below free once =
    let rest = count-entered_all n items (with_entry given item.0 item.1) below.1 (free-next given item items once free)
    (IsDistinct-tail nat_eq item.0 (indexes items) once) in
    let one = count-entered n given item.0 item.1 below.0 free.0 in
    omega arith

-- If the items are shards of a list, the entered shards are shards of the list.
pub among-entered_all : (items : Items) (given : Shards) (shards : List Shard)
    → AllByRecursion (λ item. shard_at shards item.0 ≡ item.1) items → AreAmong given shards
    → AreAmong (entered_all given items) shards
among-entered_all [] given shards own among = among
among-entered_all (item ∷ items) given shards own among =
    among-entered_all items (with_entry given item.0 item.1) shards own.1
    (entered_among given item.0 item.1 shards among own.0)

some-entered : (given : Shards) (k i : ℕ) (x : Shard)
    → is_some (with_entry given k x i) ≡ (is_some (given i) || nat_eq i k)
unfolding with_entry
some-entered given k i x = grind (arith, common_steps)

-- After the items are entered, an index has a shard exactly if it had one before or an item has this index.
pub some-entered_all : (items : Items) (given : Shards) (i : ℕ)
    → is_some (entered_all given items i) ≡ (is_some (given i) || list_any (λ item. nat_eq i item.0) items)
some-entered_all [] given i = search rules
some-entered_all (item ∷ items) given i =
    some-entered_all items (with_entry given item.0 item.1) i
    ∙ ap (λ b. b || list_any (λ item. nat_eq i item.0) items) (some-entered given item.0 i item.1)
    ∙ or_assoc (is_some (given i)) (nat_eq i item.0) (list_any (λ item. nat_eq i item.0) items)

pub count_most : (n : ℕ) (given : Shards) → count_below n given ≤ n
count_most zero given = omega (arith, count_below-zero given)
count_most (suc n) given = search (rules, count_below-suc, count_most n given)

-- If there are n shards at the indexes below n, each index below n has a shard.
pub all_some : (n : ℕ) (given : Shards) → n ≤ count_below n given → (i : ℕ) → i < n → is_some (given i) ≡ true
all_some zero given full i inside = absurd (let no : ⊥ = omega arith in no)
all_some (suc n) given full i inside = by_last (λ h j. all_some n given h j) (is_some (given n)) refl
  where
    by_last : (n ≤ count_below n given → (j : ℕ) → j < n → is_some (given j) ≡ true) → (b : Bool)
        → is_some (given n) ≡ b → is_some (given i) ≡ true
    by_last before false e =
        let most = count_most n given in
        let count = count_below-suc n given ∙ ap (λ b. count_below n given + cond b 1 0) e in
        absurd (let no : ⊥ = omega arith in no)
    by_last before true e =
        let count = count_below-suc n given ∙ ap (λ b. count_below n given + cond b 1 0) e in
        elim (cases_eq i n) [
          | inl last ↦ ap (λ j. is_some (given j)) last ∙ e
          | inr less ↦ before (omega arith) i (omega arith)
        ]
