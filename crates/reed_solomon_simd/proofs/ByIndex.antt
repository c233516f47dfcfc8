-- Restored originals are entered in a map by their index, one after another.
use Rattle.std.proofs.Common.{rules, ◌≡◌, ℕ, ◌+◌, ◌-◌, ◌<◌, ◌≤◌, true, List, [], ◌∷◌, length, get_or, Bor, Option, Some}
use Rattle.std.proofs.Common.{None, refl, sym, ap, ap₂, subst, ◌∙◌, arith}
use Rattle.std.specs.Prelude.{is_some}
use Rattle.std.proofs.lemmas.List.{get_or_default}
use Rattle.reed_solomon_simd.specs.Received.{given_in}
use Rattle.rs_field.specs.code.Column.{Shard, shard_at}
use Rattle.rs_field.specs.code.Decoder.{DecoderState, missing_of, Restored}
use Rattle.rs_field.specs.code.Given.{Shards, nothing, items_below, items_from, Lists}
use Rattle.rs_field.specs.code.OneCall.{Items}
use Rattle.rs_field.specs.code.PieceStates.{HoldRestored, shards_listed}
use Rattle.rs_field.proofs.code_lemmas.Listed.{items_from-some, items_from-none, items_from-past}
use Rattle.rs_field.proofs.code_lemmas.ListedMaps.{lists-same}
use Rattle.rs_field.proofs.code_lemmas.MissingShards.{missing-past}
use Rattle.reed_solomon_simd.proofs.Collecting.{with_entries, with_entries-lists}

-- The originals restored below an index are in the map, and the other restored originals are still in the list.
pub record AreEntered (s : DecoderState) (index : ℕ) (left : List Shard) (vectors : Shards) : Type 0 where
  pub out : Shards
  pub restored : Restored s out
  pub left_is : left ≡ shards_listed (items_from index (s.configuration.original_count - index) out)
  pub whole : with_entries vectors (items_from index (s.configuration.original_count - index) out) ≡ out

-- Before the first index, the list holds all restored originals and the map is empty.
pub entered-none : (s : DecoderState) (rooms left : List Shard) (vectors : Shards) → HoldRestored s rooms → left ≡ rooms
    → vectors ≡ nothing → AreEntered s 0 left vectors
entered-none s rooms left vectors holds is empty =
    let k = s.configuration.original_count in
    let m = holds.restored.message in
    let here : Lists holds.out (items_below s.configuration.original_count holds.out) =
    record { count = k; none_past = λ i past. holds.restored.missing i ∙ missing-past s m i past; in_order = refl } in
    let items : holds.items ≡ items_from 0 (s.configuration.original_count - 0) holds.out =
    lists-same holds.listed here ∙ ap (λ (n : ℕ). items_from 0 n holds.out) (let e : k ≡ k - 0 = omega arith in e) in
    record {
      out = holds.out;
      restored = holds.restored;
      left_is = is ∙ holds.held ∙ ap shards_listed items;
      whole = ap₂ with_entries empty (sym items) ∙ with_entries-lists holds.out holds.items holds.listed;
    }

module _ (s : DecoderState) (i : ℕ) (left : List Shard) (vectors : Shards) (are : AreEntered s i left vectors) where
  module _ (inside : i < s.configuration.original_count) (free : s.originals i ≡ None) where
    some-here : are.out i ≡ Some (shard_at are.restored.message i)
    unfolding missing_of
    some-here = search rules

    begins : items_from i (s.configuration.original_count - i) are.out
        ≡ (i, shard_at are.restored.message i) ∷ items_from (i + 1) (s.configuration.original_count - (i + 1)) are.out
    begins = items_from-some i s.configuration.original_count are.out (shard_at are.restored.message i) inside some-here

    -- If the original with index i is missing, the list still holds a shard.
    pub entered-short : left ≡ [] → ⊥
    entered-short none = search (rules, begins)

    -- If the original with index i is missing, the first shard of the list is entered at index i.
    pub entered-next : (x : Shard) (rest : List Shard) (new : Shards) → left ≡ x ∷ rest
        → ((items others : Items) → items ≡ (i, x) ∷ others → with_entries new others ≡ with_entries vectors items)
        → AreEntered s (i + 1) rest new
    entered-next x rest new is step = search (rules, begins)

  -- If the original with index i was received, the map and the list do not change.
  pub entered-skipped : i < s.configuration.original_count → is_some (s.originals i) ≡ true
      → AreEntered s (i + 1) left vectors
  unfolding missing_of
  entered-skipped inside some = search (rules, items_from-none)

  -- After the last index, the map holds all restored originals.
  pub entered-all : s.configuration.original_count ≤ i → Restored s vectors
  entered-all past =
      subst (Restored s) (sym are.whole
      ∙ ap (with_entries vectors) (items_from-past i s.configuration.original_count are.out past)) are.restored

-- If a place holds a shard, the map of the places has a shard at the index of the place.
pub some-place : (places : List (Option (Bor Shard))) (i : ℕ) (found : Option (Bor Shard))
    → get_or places i found ≡ found → i < length places → is_some found ≡ true
    → is_some (given_in places i) ≡ true
some-place places i found is inside some = search (rules, get_or_default)
