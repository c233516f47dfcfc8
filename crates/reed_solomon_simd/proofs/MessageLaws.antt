-- The originals that are left of a message, and the originals that were restored, are completed to all its originals.
use Rattle.std.proofs.Common.{rules, ◌≡◌, ℕ, zero, suc, ◌+◌, ◌<◌, ◌≤◌, nat_eq, Bool, true, false, cond, List, [], ◌∷◌}
use Rattle.std.proofs.Common.{length, Some, None, Result, Ok, Err, refl, sym, ap, subst, ◌∙◌, inl, inr, arith}
use Rattle.std.specs.Prelude.{is_some, MatchResult, IsOkAnd}
use Rattle.std.specs.List.{AllByRecursion, IsDistinct, list_any}
use Rattle.std.proofs.lemmas.List.{ext_get_or}
use Rattle.std.proofs.lemmas.List.Elements.{recursion_from_All}
use Rattle.std.proofs.lemmas.List.Folds.{list_any_at}
use Rattle.std.proofs.lemmas.Map.Keys.{IsDistinct-tail}
use Rattle.rs_field.specs.declared.code.error.Error.{Error}
use Rattle.rs_field.specs.declared.code.error.Error.TheVariants.{OutOfMemory}
use Rattle.rs_field.specs.code.Column.{Shard, shard_at}
use Rattle.rs_field.specs.code.Given.{Shards, with_entry, count_below, AreAmong}
use Rattle.rs_field.specs.code.OneCall.{Items, one_by_one}
use Rattle.rs_field.specs.code.Outcome.{result_and_then}
use Rattle.rs_field.specs.code.RoundTrip.{AreLeft, lost_of}
use Rattle.rs_field.proofs.code_lemmas.Entries.{entered_all, AreFree, indexes, free-next, among-entered_all}
use Rattle.rs_field.proofs.code_lemmas.Entries.{some-entered_all}
use Rattle.rs_field.proofs.code_lemmas.Given.{count_below-zero, count_below-suc}
use Rattle.reed_solomon_simd.specs.Messages.{enter_outcome, complete_outcome, AreInOrder, Completes}
use Rattle.reed_solomon_simd.proofs.CompletingLemmas.{enter-free}

-- Items with distinct free indexes below k are all entered.
all_entered : (k : ℕ) (items : Items) (given : Shards) → AllByRecursion (λ item. item.0 < k) items → AreFree given items
    → IsDistinct nat_eq (indexes items) → one_by_one (enter_outcome k) given items ≡ Ok (entered_all given items)
all_entered k [] given below free once = refl
all_entered k (item ∷ items) given below free once =
    ap (result_and_then (λ next. one_by_one (enter_outcome k) next items))
    (enter-free k item.0 given item.1 below.0 (ap is_some free.0))
    ∙ all_entered k items (with_entry given item.0 item.1) below.1 (free-next given item items once free)
    (IsDistinct-tail nat_eq item.0 (indexes items) once)

-- If each index below n has a shard, there are n shards.
count-full : (n : ℕ) (given : Shards) → ((i : ℕ) → i < n → is_some (given i) ≡ true) → count_below n given ≡ n
count-full zero given some = count_below-zero given
count-full (suc n) given some =
    let rest = count-full n given (λ i inside. some i (omega arith)) in
    let count = count_below-suc n given
    ∙ ap (λ (b : Bool). count_below n given + cond b 1 0) (some n (omega arith)) in
    omega arith

module _ (originals : List Shard) (kept : Items) (restored : Shards) (left : AreLeft originals kept)
    (lost : (i : ℕ) → restored i ≡ lost_of originals kept i) where
  abbrev has : ℕ → Bool
  has i = list_any (λ item. nat_eq i item.0) kept

  restored-kept : (i : ℕ) → has i ≡ true → restored i ≡ None
  unfolding lost_of
  restored-kept i there = search rules

  restored-past : (i : ℕ) → length originals ≤ i → restored i ≡ None
  unfolding lost_of
  restored-past i past = search rules

  restored-lost : (i : ℕ) → i < length originals → has i ≡ false → restored i ≡ Some (shard_at originals i)
  unfolding lost_of
  restored-lost i inside gone = search rules

  free : AreFree restored kept
  free = search (rules, recursion_from_All, restored-kept, list_any_at)

  below : AllByRecursion (λ item. item.0 < length originals) kept
  below = recursion_from_All (λ item. item.0 < length originals) kept (λ j d inside. (left.own j d inside).0)

  own : AllByRecursion (λ item. shard_at originals item.0 ≡ item.1) kept
  own = recursion_from_All (λ item. shard_at originals item.0 ≡ item.1) kept (λ j d inside. (left.own j d inside).1)

  among : AreAmong restored originals
  among i shard is = search (rules, restored-kept, restored-lost, restored-past)

  -- Each original is in the map of the restored and the kept ones.
  all_there : (i : ℕ) → i < length originals → is_some (entered_all restored kept i) ≡ true
  all_there i inside = search (rules, some-entered_all, restored-lost)

  whole : complete_outcome (length originals) kept restored ≡ Ok (entered_all restored kept)
  whole = search (rules, all_entered, below, free, count-full, all_there)

  -- Originals in order that are in the map of the restored and the kept ones are the originals of the message.
  in_order : (shards : List Shard) → AreInOrder (length originals) (entered_all restored kept) shards
      → shards ≡ originals
  in_order shards are =
      ext_get_or [] shards originals are.number
      (λ i inside. sym (among-entered_all kept restored originals own among i (shard_at shards i)
      (are.each i (let number = are.number in omega arith))))

  -- The originals that are left of a message and the lost originals are completed to all originals. The only error is
  -- `OutOfMemory`.
  pub completes_all : (result : Result (List Shard) Error) → Completes (length originals) kept restored result
      → MatchResult result (λ shards. shards ≡ originals) (λ e. e ≡ OutOfMemory)
  completes_all result (inl (e, past, is)) =
      absurd (let none = restored-past past.0 past.1 in let some : is_some (restored past.0) ≡ true = past.2 in
      let nothing_left : ⊥ = cc in nothing_left)
  completes_all result (inr (within, inl lacks)) =
      subst (λ (r : Result (List Shard) Error). MatchResult r (λ shards. shards ≡ originals) (λ e. e ≡ OutOfMemory))
      (sym lacks) refl
  completes_all result (inr (within, inr has_all)) =
      by_result result
      (subst (λ (wanted : Result Shards Error).
      MatchResult wanted (λ all. IsOkAnd result (AreInOrder (length originals) all)) (λ e. result ≡ Err e)) whole
      has_all)
    where
      by_result : (r : Result (List Shard) Error)
          → IsOkAnd r (AreInOrder (length originals) (entered_all restored kept))
          → MatchResult r (λ shards. shards ≡ originals) (λ e. e ≡ OutOfMemory)
      by_result (Ok shards) are = in_order shards are
      by_result (Err e) none = absurd none
