-- Lemmas about the place of the first shard of another size.
use Rattle.std.proofs.Common.{rules, ◌≡◌, ℕ, ◌+◌, ◌<◌, List, [], ◌∷◌, ◌++◌, length, map, drop, get_or, refl, ap, ap₂}
use Rattle.std.proofs.Common.{sym, inl, inr, arith}
use Rattle.std.proofs.lemmas.Bool.{cases_eq, eq-eqb, ne_eqb}
use Rattle.std.proofs.lemmas.List.{drop_more}
use Rattle.rs_field.specs.code.Column.{Shard}
use Rattle.rs_ffi.specs.declared.layouts.RsShard.{RsShard}
use Rattle.rs_ffi.specs.Arrays.{items_of, shards_in}
use Rattle.rs_ffi.specs.Places.{place_of_other}

-- If shard i has another size, the search from it on ends at once.
pub other-here : (size i : ℕ) (shards : List Shard) → i < length shards → (length (get_or shards i []) ≡ size → ⊥)
    → place_of_other size (drop i shards) ≡ 0
other-here size i shards inside other = search (rules, drop_more)

-- If shard i has the size, the search goes on with the next shard.
pub other-later : (size i : ℕ) (shards : List Shard) → i < length shards → length (get_or shards i []) ≡ size
    → place_of_other size (drop i shards) ≡ place_of_other size (drop (i + 1) shards) + 1
other-later size i shards inside same = search (rules, drop_more)

-- If a list has a shard of another size, this shard is also the first one of the list with others after it.
pub other-first : (size : ℕ) (first second : List Shard) → place_of_other size first < length first
    → place_of_other size (first ++ second) ≡ place_of_other size first
other-first size [] second inside = absurd (let no : ⊥ = omega (arith, inside) in no)
other-first size (shard ∷ shards) second inside = elim (cases_eq (length shard) size) [
  | inl same ↦
      let rest = rw (eq-eqb (length shard) size same) at inside in
      rw (eq-eqb (length shard) size same)
      (ap (λ (n : ℕ). n + 1) (other-first size shards second (omega (arith, rest))))
  | inr other ↦ rw (ne_eqb (length shard) size other) refl
]

-- If no shard of a list has another size, the first one is among those after it.
pub other-second : (size : ℕ) (first second : List Shard) → (place_of_other size first < length first → ⊥)
    → place_of_other size (first ++ second) ≡ length first + place_of_other size second
other-second size [] second none = omega arith
other-second size (shard ∷ shards) second none = elim (cases_eq (length shard) size) [
  | inl same ↦
      let rest = rw (eq-eqb (length shard) size same) at none in
      rw (eq-eqb (length shard) size same)
      (let others = other-second size shards second (λ below. rest (omega (arith, below))) in omega (arith, others))
  | inr other ↦
      let here = rw (ne_eqb (length shard) size other) at none in absurd (here (omega arith))
]

-- the bytes of the shards of an array
abbrev pub bytes_of : List RsShard → List Shard
bytes_of array = map (λ shard. shard.bytes.now) array

-- The shards of the items of an array are the bytes of its shards.
pub bytes-shards : (array : List RsShard) → shards_in (items_of array) ≡ bytes_of array
bytes-shards [] = refl
bytes-shards (shard ∷ shards) = ap (λ (others : List Shard). shard.bytes.now ∷ others) (bytes-shards shards)

-- The shards of the items of two arrays, one array after the other, are the bytes of their shards.
pub both-shards : (first second : List RsShard)
    → bytes_of first ++ bytes_of second ≡ shards_in (items_of first) ++ shards_in (items_of second)
both-shards first second =
    ap₂ (λ (l m : List Shard). l ++ m) (sym (bytes-shards first)) (sym (bytes-shards second))
