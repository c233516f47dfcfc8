-- Lists of lost indexes, and the shards with these indexes.
use Rattle.std.proofs.Common.{rules, ◌≡◌, ℕ, ◌+◌, ◌<◌, ◌&&◌, ◌||◌, not, nat_eq, Bool, true, false, cond, List, [], ◌∷◌}
use Rattle.std.proofs.Common.{◌++◌, length, map, get_or, Option, Some, Ok, Vec, refl, sym, ap, ◌∙◌}
use Rattle.std.specs.Prelude.{is_some, nat_lt, ◌==◌}
use Rattle.std.specs.BTreeMap.{BTreeMap, IsFromIterResult}
use Rattle.std.specs.List.{AllByRecursion, IsDistinct, list_any, enumerate_from, zip}
use Rattle.std.specs.Map.{update, update_all}
use Rattle.std.specs.Option.{option_map}
use Rattle.std.specs.Ordering.{nat_cmp, eq_by_cmp}
use Rattle.std.proofs.lemmas.Bool.{and_parts, eqb-true, eqb-false, eq-eqb, ne_eqb, ltb-true, lt-leb}
use Rattle.std.proofs.lemmas.List.Elements.{recursion_from_All}
use Rattle.std.proofs.lemmas.List.Folds.{list_any_at, list_any-append}
use Rattle.std.proofs.lemmas.Map.Keys.{IsDistinct-push, IsDistinct-tail, IsDistinct-head}
use Rattle.std.proofs.lemmas.Map.Views.{any-filter_same}
use Rattle.reed_solomon_simd.specs.declared.ShardIndex.{ShardIndex}
use Rattle.reed_solomon_simd.specs.declared.ShardIndex.TheVariants.{Original}
use Rattle.reed_solomon_simd.specs.Column.{Shard, shard_at}
use Rattle.reed_solomon_simd.specs.Decoder.{DecoderState}
use Rattle.reed_solomon_simd.specs.Given.{nothing}
use Rattle.reed_solomon_simd.specs.OneCall.{shards_in}
use Rattle.reed_solomon_simd.specs.Reconstructed.{wanted_outcome}
use Rattle.reed_solomon_simd.specs.ShardNames.{shard_named, is_same}
use Rattle.reed_solomon_simd.proofs.Collecting.{is_eq-nat_cmp}
use Rattle.reed_solomon_simd.proofs.Entries.{entered_all, some-entered_all}
use Rattle.rs_examples.specs.Losing.{is_lost, left_of, lost_at, ListsLost}

-- ---- the list of lost indexes

-- No index is below 0.
pub lists-none : (lost : List ℕ) → ListsLost 0 lost []
unfolding IsDistinct
lists-none lost = search rules

module _ {n : ℕ} {lost indexes : List ℕ} (lists : ListsLost n lost indexes) where
  -- A lost index is added to the list.
  pub lists-lost : is_lost lost n ≡ true → ListsLost (n + 1) lost (indexes ++ n ∷ [])
  lists-lost gone = search (rules, list_any-append, IsDistinct-push)

  -- The list stays as it is if an index is not lost.
  pub lists-left : is_lost lost n ≡ false → ListsLost (n + 1) lost indexes
  lists-left kept = search rules

-- ---- the names of lost originals

-- The originals of an index and of its name are the same.
pub named_at : (originals recovery : List Shard) (indexes : List ℕ)
    → map (shard_named originals recovery) (map (λ i. Original i) indexes) ≡ map (shard_at originals) indexes
named_at originals recovery [] = refl
named_at originals recovery (i ∷ indexes) = ap (λ xs. shard_at originals i ∷ xs) (named_at originals recovery indexes)

-- If names differ from all names of a list, and their indexes differ from x, they also differ from the names of the
-- list with original x before it.
apart-next : (x : ℕ) (before : List ShardIndex) (xs : List ℕ) → AllByRecursion (λ i. nat_eq x i ≡ false) xs
    → AllByRecursion (λ i. list_any (is_same (Original i)) before ≡ false) xs
    → AllByRecursion (λ i. list_any (is_same (Original i)) (Original x ∷ before) ≡ false) xs
apart-next x before [] others apart = tt
apart-next x before (i ∷ xs) others apart =
    let other : (i == x) ≡ false = ne_eqb i x (λ same. eqb-false x i others.0 (sym same)) in (
      ap (λ b. b || list_any (is_same (Original i)) before) other ∙ apart.0,
      apart-next x before xs others.1 apart.1,
    )

-- Different originals that were not received can be wanted.
wanted-free : (s : DecoderState) (before : List ShardIndex) (xs : List ℕ)
    → AllByRecursion (λ i. (i < s.configuration.original_count) × (is_some (s.originals i) ≡ false)) xs
    → IsDistinct nat_eq xs → AllByRecursion (λ i. list_any (is_same (Original i)) before ≡ false) xs
    → wanted_outcome s before (map (λ i. Original i) xs) ≡ Ok tt
wanted-free s before [] free once apart = refl
wanted-free s before (x ∷ xs) free once apart =
    rw (lt-leb s.configuration.original_count x free.0.0, apart.0, free.0.1)
    (wanted-free s (Original x ∷ before) xs free.1 (IsDistinct-tail nat_eq x xs once)
    (apart-next x before xs (IsDistinct-head nat_eq x xs once) apart.1))

nothing-before : (xs : List ℕ) → AllByRecursion (λ (i : ℕ). list_any (is_same (Original i)) [] ≡ false) xs
nothing-before [] = tt
nothing-before (x ∷ xs) = (refl, nothing-before xs)

-- The lost originals can be wanted from a decoder with the originals that are left.
pub lost-wanted : (s : DecoderState) (originals : List Shard) (lost indexes : List ℕ)
    → s.originals ≡ entered_all nothing (left_of originals lost)
    → ListsLost s.configuration.original_count lost indexes
    → wanted_outcome s [] (map (λ i. Original i) indexes) ≡ Ok tt
lost-wanted s originals lost indexes given lists =
    wanted-free s [] indexes (recursion_from_All
    (λ i. (i < s.configuration.original_count) × (is_some (s.originals i) ≡ false)) indexes free) lists.once
    (nothing-before indexes)
  where
    gone : (i : ℕ) → is_lost lost i ≡ true → is_some (s.originals i) ≡ false
    gone i is =
        ap (λ f. is_some (f i)) given
        ∙ some-entered_all (left_of originals lost) nothing i
        ∙ any-filter_same (λ item. nat_eq i item.0) (λ item. not (is_lost lost item.0)) (not (is_lost lost i))
        (λ item same. ap (λ j. not (is_lost lost j)) (sym (eqb-true i item.0 same))) (enumerate_from 0 originals)
        ∙ ap (λ b. not b && list_any (λ item. nat_eq i item.0) (enumerate_from 0 originals)) is

    free : (j d : ℕ) → j < length indexes
        → (get_or indexes j d < s.configuration.original_count) × (is_some (s.originals (get_or indexes j d)) ≡ false)
    free j d inside =
        let i = get_or indexes j d in
        let listed : (nat_lt (get_or indexes j d) s.configuration.original_count && is_lost lost (get_or indexes j d))
        ≡ true = sym (lists.each i) ∙ list_any_at (nat_eq i) indexes j d inside (eq-eqb i i refl) in
        let both = and_parts (nat_lt i s.configuration.original_count) (is_lost lost i) listed in
        (ltb-true i s.configuration.original_count both.0, gone i both.1)

-- ---- the map of lost originals

module _ {Y : Type 0} (originals : List Shard) where
  -- After shards were entered at their indexes, each of these indexes has its shard.
  entered : (xs : List ℕ) (vectors : List (Vec ℕ Y)) (f : ℕ → Option (Vec ℕ Y)) (i : ℕ)
      → map (λ v. v.items) vectors ≡ map (shard_at originals) xs
      → option_map (λ v. v.items) (update_all (eq_by_cmp nat_cmp) f (zip xs vectors) i)
      ≡ cond (list_any (nat_eq i) xs) (Some (shard_at originals i)) (option_map (λ v. v.items) (f i))
  entered [] vectors f i same = refl
  entered (x ∷ xs) [] f i same = let no : ⊥ = cc in absurd no
  entered (x ∷ xs) (v ∷ vectors) f i same =
      let own : v.items ≡ shard_at originals x = cc in
      let rest : map (λ v. v.items) vectors ≡ map (shard_at originals) xs = cc in
      entered xs vectors (update (eq_by_cmp nat_cmp) f x (Some v)) i rest
      ∙ ap (λ b. cond (list_any (nat_eq i) xs) (Some (shard_at originals i))
      (option_map (λ v. v.items) (cond b (Some v) (f i)))) (is_eq-nat_cmp x i)
      ∙ by_tests (i == x) refl (list_any (nat_eq i) xs) own
    where
      by_tests : (b : Bool) → (i == x) ≡ b → (c : Bool) → v.items ≡ shard_at originals x
          → cond c (Some (shard_at originals i)) (option_map (λ v. v.items) (cond b (Some v) (f i)))
          ≡ cond (b || c) (Some (shard_at originals i)) (option_map (λ v. v.items) (f i))
      by_tests true e true own = refl
      by_tests true e false own = ap Some (own ∙ ap (shard_at originals) (sym (eqb-true i x e)))
      by_tests false e c own = refl

  -- A map of shards by their lost indexes has exactly the lost shards.
  pub lost-mapped : (lost indexes : List ℕ) (vectors : List (Vec ℕ Y)) (m : BTreeMap ℕ (Vec ℕ Y))
      → ListsLost (length originals) lost indexes
      → map (λ v. v.items) vectors ≡ map (shard_at originals) indexes
      → IsFromIterResult nat_cmp (zip indexes vectors) m
      → (i : ℕ) → shards_in m i ≡ lost_at originals lost i
  lost-mapped lost indexes vectors m lists same made i = search (rules, entered)
