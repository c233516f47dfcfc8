-- Listed shards are entered into a map, one after another.
use Rattle.std.proofs.Common.{rules, ◌≡◌, ◌+◌, ◌<◌, ◌≤◌, ◌==◌, ℕ, zero, suc, Bool, cond, [], ◌∷◌, ◌++◌, Option, Some}
use Rattle.std.proofs.Common.{None, refl, sym, ap, subst, ◌∙◌, inl, inr, arith}
use Rattle.std.proofs.Math.Path.{fun_ext}
use Rattle.std.proofs.lemmas.Bool.{cases_lt, eq-eqb, ne_eqb}
use Rattle.std.specs.BTreeMap.{BTreeMap, IsEmpty, Updates, is_at}
use Rattle.std.specs.Map.{lookup}
use Rattle.std.specs.Option.{option_map}
use Rattle.std.specs.Ordering.{nat_cmp, is_eq}
use Rattle.std.specs.declared.vec.Vec.{Vec}
use Rattle.rs_field.specs.code.Column.{Shard}
use Rattle.rs_field.specs.code.Given.{Shards, nothing, with_entry, items_at, items_from, Lists}
use Rattle.rs_field.specs.code.OneCall.{Items, shards_in}
use Rattle.rs_field.proofs.code_lemmas.Listed.{items_from-zero, items_from-suc}

-- The map after the items were entered, one after another.
abbrev pub with_entries : Shards → Items → Shards
with_entries given [] = given
with_entries given (item ∷ items) = with_entries (with_entry given item.0 item.1) items

with_entry-at : (given : Shards) (index : ℕ) (shard : Shard) (i : ℕ) → i ≡ index
    → with_entry given index shard i ≡ Some shard
unfolding with_entry
with_entry-at given index shard i same = ap (λ (b : Bool). cond b (Some shard) (given i)) (eq-eqb i index same)

with_entry-other : (given : Shards) (index : ℕ) (shard : Shard) (i : ℕ) → (i ≡ index → ⊥)
    → with_entry given index shard i ≡ given i
unfolding with_entry
with_entry-other given index shard i other = ap (λ (b : Bool). cond b (Some shard) (given i)) (ne_eqb i index other)

-- `part` has the shards of `given` below index `from`, and no shard from there on.
record IsBelow (from : ℕ) (given part : Shards) : Type 0 where
  same : (i : ℕ) → i < from → part i ≡ given i
  none : (i : ℕ) → from ≤ i → part i ≡ None

-- Entering the shard of the next index, if there is one, extends the part by this index.
below-next : (from : ℕ) (given part : Shards) (o : Option Shard) → given from ≡ o → IsBelow from given part
    → IsBelow (suc from) given (with_entries part (items_at from o))
below-next from given part None is below =
    record {
      same = λ i inside. elim (cases_lt i from) [
        | inl under ↦ below.same i under
        | inr over ↦ let last : i ≡ from = omega arith in below.none i over ∙ sym is ∙ ap given (sym last)
      ];
      none = λ i outside. below.none i (omega arith);
    }
below-next from given part (Some shard) is below =
    record {
      same = λ i inside. elim (cases_lt i from) [
        | inl under ↦ with_entry-other part from shard i (λ same. let e : i ≡ from = same in omega arith)
            ∙ below.same i under
        | inr over ↦ let last : i ≡ from = omega arith in
            with_entry-at part from shard i last ∙ sym is ∙ ap given (sym last)
      ];
      none = λ i outside. with_entry-other part from shard i (λ same. let e : i ≡ from = same in omega arith)
          ∙ below.none i (omega arith);
    }

with_entries-append : (given : Shards) (items others : Items)
    → with_entries given (items ++ others) ≡ with_entries (with_entries given items) others
with_entries-append given [] others = refl
with_entries-append given (item ∷ items) others = with_entries-append (with_entry given item.0 item.1) items others

-- Entering the shards that a map has at the next n indexes extends the part by these indexes.
below-listed : (n from : ℕ) (given part : Shards) → IsBelow from given part
    → IsBelow (from + n) given (with_entries part (items_from from n given))
below-listed zero from given part below =
    subst (λ (m : ℕ). IsBelow m given (with_entries part (items_from from 0 given)))
    (let m : from ≡ from + 0 = omega arith in m)
    (subst (λ items. IsBelow from given (with_entries part items)) (sym (items_from-zero from given)) below)
below-listed (suc n) from given part below =
    let next = below-listed n (suc from) given _ (below-next from given part (given from) refl below) in
    let joined = ap (with_entries part) (items_from-suc from n given)
    ∙ with_entries-append part (items_at from (given from)) (items_from (suc from) n given) in
    subst (λ (m : ℕ). IsBelow m given (with_entries part (items_from from (suc n) given)))
    (let m : suc from + n ≡ from + suc n = omega arith in m)
    (subst (IsBelow (suc from + n) given) (sym joined) next)

-- Entering the listed items of a map into the empty map gives the map.
pub with_entries-lists : (given : Shards) (items : Items) → Lists given items → with_entries nothing items ≡ given
with_entries-lists given items lists =
    let start : IsBelow 0 given nothing =
    record { same = λ i inside. absurd (omega arith); none = λ i outside. refl } in
    let all : IsBelow lists.count given (with_entries nothing items) =
    subst (λ xs. IsBelow lists.count given (with_entries nothing xs)) (sym lists.in_order)
    (subst (λ (m : ℕ). IsBelow m given (with_entries nothing (items_from 0 lists.count given)))
    (let m : 0 + lists.count ≡ lists.count = omega arith in m) (below-listed lists.count 0 given nothing start))
    in
    fun_ext (λ i. elim (cases_lt i lists.count)
    [ inl inside ↦ all.same i inside | inr outside ↦ all.none i outside ∙ sym (lists.none_past i outside) ])

-- `nat_cmp` returns `Equal` exactly for equal numbers.
pub is_eq-nat_cmp : (a b : ℕ) → is_eq (nat_cmp a b) ≡ (b == a)
is_eq-nat_cmp a b = search rules

module _ {Y : Type 0} where
  -- An empty map of vectors has no shards.
  pub shards_in-empty : (m : BTreeMap ℕ (Vec ℕ Y)) → IsEmpty m → shards_in m ≡ nothing
  shards_in-empty m empty = fun_ext (λ i. ap (λ es. option_map (λ v. v.items) (lookup (is_at (nat_cmp i)) es)) empty)

  -- Inserting a vector into a map of vectors enters its shard.
  pub shards_in-inserted : (old new : BTreeMap ℕ (Vec ℕ Y)) (index : ℕ) (vector : Vec ℕ Y) (shard : Shard)
      → vector.items ≡ shard → Updates nat_cmp old new index (Some vector)
      → shards_in new ≡ with_entry (shards_in old) index shard
  unfolding with_entry
  shards_in-inserted old new index vector shard same updates = search rules

  -- Inserting the first of the remaining items into the map leaves the same final map.
  pub with_entries-inserted : (old new : BTreeMap ℕ (Vec ℕ Y)) (index : ℕ) (vector : Vec ℕ Y) (shard : Shard)
      (left rest : Items)
      → left ≡ (index, shard) ∷ rest → vector.items ≡ shard → Updates nat_cmp old new index (Some vector)
      → with_entries (shards_in new) rest ≡ with_entries (shards_in old) left
  with_entries-inserted old new index vector shard left rest begins same updates =
      ap (λ s. with_entries s rest) (shards_in-inserted old new index vector shard same updates)
      ∙ ap (with_entries (shards_in old)) (sym begins)
