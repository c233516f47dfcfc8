-- Received and restored originals in one map, and the originals of a map in order of their index.
use Rattle.std.proofs.Common.{rules, ◌≡◌, ℕ, ◌+◌, ◌<◌, ◌≤◌, false, cond, List, [], ◌∷◌, ◌++◌, length, Option, Some}
use Rattle.std.proofs.Common.{None, Result, Ok, refl, ap, ◌∙◌, add-one}
use Rattle.std.specs.Prelude.{is_some}
use Rattle.std.specs.BTreeMap.{BTreeMap, UpdatesBy}
use Rattle.std.specs.Option.{option_map}
use Rattle.std.specs.Ordering.{nat_cmp}
use Rattle.std.specs.declared.vec.Vec.{Vec}
use Rattle.std.proofs.lemmas.Bool.{lt-leb, ne_eqb}
use Rattle.std.proofs.lemmas.List.{length_push, get_or_push, get_or_append_left}
use Rattle.rs_field.specs.declared.code.error.Error.{Error}
use Rattle.rs_field.specs.code.Column.{Shard, shard_at}
use Rattle.rs_field.specs.code.Given.{Shards, with_entry, count_below}
use Rattle.rs_field.specs.code.OneCall.{shards_in}
use Rattle.rs_field.proofs.code_lemmas.Entries.{count_most}
use Rattle.rs_field.proofs.code_lemmas.Given.{count_below-zero, count_below-suc}
use Rattle.reed_solomon_simd.specs.Messages.{enter_outcome, whole_outcome, HasInOrder}
use Rattle.reed_solomon_simd.proofs.Collecting.{is_eq-nat_cmp}

-- ---- one original is entered

-- An original is entered at an index below k that has none.
pub enter-free : (k index : ℕ) (given : Shards) (shard : Shard) → index < k → is_some (given index) ≡ false
    → enter_outcome k given (index, shard) ≡ Ok (with_entry given index shard)
enter-free k index given shard inside free = rw (lt-leb k index inside, free) refl

-- ---- the originals of a map are taken in order

module _ {Y : Type 0} where
  -- Removing a vector from a map changes no other index.
  pub shards_in-removed : (old new : BTreeMap ℕ (Vec ℕ Y)) (index : ℕ)
      → UpdatesBy nat_cmp (nat_cmp index) old new None → (i : ℕ) → (i ≡ index → ⊥)
      → shards_in new i ≡ shards_in old i
  shards_in-removed old new index updates i other =
      ap (option_map (λ v. v.items)) (updates.2 i (is_eq-nat_cmp index i ∙ ne_eqb i index other))

-- The originals below an index were taken from a map, and the others are still in it.
pub record AreTaken (all : Shards) (index : ℕ) (left : Shards) (taken : List Shard) : Type 0 where
  pub same : (i : ℕ) → index ≤ i → left i ≡ all i
  pub number : length taken ≡ count_below index all
  pub whole : index ≤ length taken → (i : ℕ) → i < index → all i ≡ Some (shard_at taken i)

pub taken-none : (all left : Shards) → left ≡ all → AreTaken all 0 left []
taken-none all left is = search (rules, count_below-zero)

counted-next : (all : Shards) (index : ℕ) (o : Option Shard) → all index ≡ o
    → count_below (index + 1) all ≡ count_below index all + cond (is_some o) 1 0
counted-next all index o is =
    ap (λ n. count_below n all) (add-one index)
    ∙ count_below-suc index all
    ∙ ap (λ (x : Option Shard). count_below index all + cond (is_some x) 1 0) is

module _ (all : Shards) (index : ℕ) (left new : Shards) (taken : List Shard) (are : AreTaken all index left taken)
    (others : (i : ℕ) → (i ≡ index → ⊥) → new i ≡ left i) where
  -- An original with the next index is taken.
  pub taken-one : (shard : Shard) → left index ≡ Some shard → AreTaken all (index + 1) new (taken ++ shard ∷ [])
  taken-one shard is = search (rules, length_push, counted-next, count_most, get_or_push, get_or_append_left)

  -- No original has the next index.
  pub taken-skip : left index ≡ None → AreTaken all (index + 1) new taken
  taken-skip is = search (rules, counted-next, count_most)

module _ (k : ℕ) (all left : Shards) (taken : List Shard) (are : AreTaken all k left taken)
    (result : Result (List Shard) Error) where
  -- If k originals were taken, they are the originals in order.
  pub taken-all : k ≤ length taken → result ≡ Ok taken → HasInOrder k (whole_outcome k all) result
  taken-all full is = search (rules, count_most)
