-- Lemmas that entries in ascending order of index are the list of the map that they make.
use Rattle.std.proofs.Common.{◌≡◌, ℕ, zero, suc, ◌+◌, ◌<◌, ◌≤◌, Bool, true, false, cond, List, [], ◌∷◌, ◌++◌, max, Less}
use Rattle.std.proofs.Common.{refl, sym, ap, ap₂, ◌∙◌, arith}
use Rattle.std.specs.Prelude.{Some, None, ⊤, nat_eq}
use Rattle.std.specs.List.Sorted.{IsStrictlySortedBy}
use Rattle.std.specs.List.{AllByRecursion}
use Rattle.std.specs.Map.{keys_of, lookup}
use Rattle.std.specs.Ordering.{nat_cmp}
use Rattle.std.proofs.lemmas.Bool.Decides.{nat_tests}
use Rattle.reed_solomon_simd.specs.Column.{Shard}
use Rattle.reed_solomon_simd.specs.Given.{Shards, items_at, items_from, Lists}
use Rattle.reed_solomon_simd.specs.OneCall.{Items}
use Rattle.reed_solomon_simd.proofs.Listed.{items_from-zero, items_from-suc}

-- the indexes are in ascending order, and the first one is at least `from`
abbrev Ascends : ℕ → Items → Type 0
Ascends from [] = ⊤
Ascends from (item ∷ items) = (from ≤ item.0) × Ascends (suc item.0) items

-- an index above all indexes of the entries
abbrev bound : Items → ℕ
bound [] = 0
bound (item ∷ items) = max (suc item.0) (bound items)

unequal : (x y : ℕ) → (x ≡ y → ⊥) → nat_eq x y ≡ false
unequal x y apart = grind (arith, nat_tests, apart)

equal : (x : ℕ) → nat_eq x x ≡ true
equal x = grind (arith, nat_tests)

-- An index below all indexes of the entries has no entry.
none_below : (from i : ℕ) (items : Items) → Ascends from items → i < from → lookup (nat_eq i) items ≡ None
none_below from i [] up below = refl
none_below from i (item ∷ items) up below =
    ap (λ b. cond b (Some item.1) (lookup (nat_eq i) items)) (unequal i item.0 (λ e. omega (arith, up.0, below, e)))
    ∙ none_below (suc item.0) i items up.1 (omega (arith, up.0, below))

-- An index that is at least the bound of the entries has no entry.
none_above : (i : ℕ) (items : Items) → bound items ≤ i → lookup (nat_eq i) items ≡ None
none_above i [] above = refl
none_above i (item ∷ items) above =
    ap (λ b. cond b (Some item.1) (lookup (nat_eq i) items)) (unequal i item.0 (λ e. grind (arith, above, e)))
    ∙ none_above i items (grind (arith, above))

-- a map has the same shards as the entries at all indexes from `from` on
abbrev AgreesFrom : ℕ → Shards → Items → Type 0
AgreesFrom from given items = (i : ℕ) → from ≤ i → given i ≡ lookup (nat_eq i) items

-- The step of the induction over indexes: the first entry has the index `from`, or no entry has it.
ascending_more : (n from : ℕ) (given : Shards) (item : ℕ × Shard) (items : Items) → Ascends from (item ∷ items)
    → AgreesFrom from given (item ∷ items)
    → ((others : Items) → Ascends (suc from) others → AgreesFrom (suc from) given others
    → others ≡ items_from (suc from) n given)
    → item ∷ items ≡ items_from from (suc n) given
ascending_more n from given item items up agrees others = by_first (nat_eq from item.0) refl
  where
    by_first : (first : Bool) → nat_eq from item.0 ≡ first → item ∷ items ≡ items_from from (suc n) given
    by_first true same =
        let here : item.0 ≡ from = grind (arith, nat_tests, same) in
        let rest : AgreesFrom (suc from) given items =
        λ i above. agrees i (omega (arith, above))
        ∙ ap (λ b. cond b (Some item.1) (lookup (nat_eq i) items))
        (unequal i item.0 (λ e. omega (arith, above, here, e))) in
        let some : given from ≡ Some item.1 =
        agrees from (omega arith) ∙ ap (λ b. cond b (Some item.1) (lookup (nat_eq from) items)) same in
        ap₂ (λ k xs. (k, item.1) ∷ xs) here (others items (rw here at up.1) rest)
        ∙ ap (λ o. items_at from o ++ items_from (suc from) n given) (sym some)
        ∙ sym (items_from-suc from n given)
    by_first false apart =
        let later : suc from ≤ item.0 = grind (arith, nat_tests, apart, up.0) in
        let none : given from ≡ None =
        agrees from (omega arith) ∙ none_below (suc from) from (item ∷ items) (later, up.1) (omega arith) in
        others (item ∷ items) (later, up.1) (λ i above. agrees i (omega (arith, above)))
        ∙ ap (λ o. items_at from o ++ items_from (suc from) n given) (sym none)
        ∙ sym (items_from-suc from n given)

-- Entries in ascending order that make a map are the list of the map, from an index on.
ascending_from : (n from : ℕ) (given : Shards) (items : Items) → Ascends from items → AgreesFrom from given items
    → ((i : ℕ) → from + n ≤ i → given i ≡ None) → items ≡ items_from from n given
ascending_from zero from given [] up agrees past = sym (items_from-zero from given)
ascending_from zero from given (item ∷ items) up agrees past =
    let some : None ≡ Some item.1 = sym (past item.0 (omega (arith, up.0))) ∙ agrees item.0 up.0
    ∙ ap (λ b. cond b (Some item.1) (lookup (nat_eq item.0) items)) (equal item.0) in
    absurd (let no : ⊥ = cc in no)
ascending_from (suc n) from given [] up agrees past =
    ascending_from n (suc from) given [] up (λ i above. agrees i (omega (arith, above)))
    (λ i above. past i (omega (arith, above)))
    ∙ ap (λ o. items_at from o ++ items_from (suc from) n given) (sym (agrees from (omega arith)))
    ∙ sym (items_from-suc from n given)
ascending_from (suc n) from given (item ∷ items) up agrees past =
    ascending_more n from given item items up agrees
    (λ others rest same. ascending_from n (suc from) given others rest same (λ i above. past i (omega (arith, above))))

after : (k y : ℕ) → nat_cmp k y ≡ Less → suc k ≤ y
after k y less = grind (arith, nat_tests, less)

all_after : (k : ℕ) (ks : List ℕ) → AllByRecursion (λ y. nat_cmp k y ≡ Less) ks → AllByRecursion (λ y. suc k ≤ y) ks
all_after k [] all = tt
all_after k (y ∷ ks) all = (after k y all.0, all_after k ks all.1)

ascends : (from : ℕ) (items : Items) → AllByRecursion (λ y. from ≤ y) (keys_of items)
    → IsStrictlySortedBy nat_cmp (keys_of items) → Ascends from items
unfolding IsStrictlySortedBy
ascends from [] all sorted = tt
ascends from (item ∷ items) all sorted =
    (all.0, ascends (suc item.0) items (all_after item.0 (keys_of items) sorted.0) sorted.1)

all_from_zero : (ks : List ℕ) → AllByRecursion (λ y. 0 ≤ y) ks
all_from_zero [] = tt
all_from_zero (y ∷ ks) = (omega arith, all_from_zero ks)

-- Entries in ascending order of index are the list of the map that they make.
pub lists-sorted : (given : Shards) (items : Items) → IsStrictlySortedBy nat_cmp (keys_of items)
    → ((i : ℕ) → given i ≡ lookup (nat_eq i) items) → Lists given items
lists-sorted given items sorted each =
    let past : (i : ℕ) → bound items ≤ i → given i ≡ None = λ i above. each i ∙ none_above i items above in
    record {
      count = bound items;
      none_past = past;
      in_order = ascending_from (bound items) 0 given items (ascends 0 items (all_from_zero (keys_of items)) sorted)
          (λ i above. each i) (λ i above. past i (omega (arith, above)));
    }
