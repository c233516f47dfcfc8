-- The shards of a list that are left, each with its index, if a test says which ones are lost.
use Rattle.std.proofs.Common.{rules, ◌≡◌, ℕ, ◌+◌, ◌<◌, ◌&&◌, Bool, true, false, cond, not, List, [], ◌∷◌, length, refl}
use Rattle.std.proofs.Common.{sym, ap, subst, ◌∙◌, arith, nat_eq, nat_lt, Some, None, Result, IfOk, IfErr, ◌≤◌}
use Rattle.std.specs.List.{AllByRecursion, IsDistinct, enumerate_from, filter, list_any}
use Rattle.std.proofs.lemmas.Bool.{eqb-true, ne_eqb, eq-eqb, le-ltb, ltb-true}
use Rattle.std.proofs.lemmas.List.{get_or_default}
use Rattle.std.proofs.lemmas.List.Elements.{All-filter}
use Rattle.std.proofs.lemmas.List.Folds.{list_any_at}
use Rattle.std.proofs.lemmas.List.FromFn.{length-enumerate_from, get_or-enumerate_from}
use Rattle.std.proofs.lemmas.Map.Made.{IsDistinct-keys_filter}
use Rattle.std.proofs.lemmas.Map.Views.{any-filter_same}
use Rattle.rs_field.specs.code.Column.{Shard, shard_at}
use Rattle.rs_field.specs.code.Given.{Shards}
use Rattle.rs_field.specs.code.OneCall.{Items}
use Rattle.rs_field.specs.code.RoundTrip.{AreLeft, lost_of, OneBringsBack}
use Rattle.rs_field.specs.declared.code.error.Error.{Error}
use Rattle.rs_field.specs.declared.code.error.Error.TheVariants.{OutOfMemory}
use Rattle.rs_field.proofs.code_lemmas.Entries.{indexes}

-- The shards that are not lost, with their indexes.
abbrev pub kept_of : List Shard → (ℕ → Bool) → Items
kept_of shards lost = filter (λ item. not (lost item.0)) (enumerate_from 0 shards)

-- An item is a shard of the list with its index.
abbrev IsOwn : List Shard → ℕ × Shard → Type 0
IsOwn shards item = (item.0 < length shards) × (shard_at shards item.0 ≡ item.1)

others_above : (n m : ℕ) (shards : List Shard) → n < m
    → AllByRecursion (λ i. nat_eq n i ≡ false) (indexes (enumerate_from m shards))
others_above n m [] less = tt
others_above n m (x ∷ shards) less =
    (ne_eqb n m (λ e. let no : ⊥ = omega arith in no), others_above n (m + 1) shards (omega arith))

once_numbered : (n : ℕ) (shards : List Shard) → IsDistinct nat_eq (indexes (enumerate_from n shards))
unfolding IsDistinct
once_numbered n [] = tt
once_numbered n (x ∷ shards) = (others_above n (n + 1) shards (omega arith), once_numbered (n + 1) shards)

-- The shards that are not lost satisfy `AreLeft`.
pub kept-left : (shards : List Shard) (lost : ℕ → Bool) → AreLeft shards (kept_of shards lost)
kept-left shards lost = record {
  own = All-filter (λ item. not (lost item.0)) (IsOwn shards) (enumerate_from 0 shards)
      (λ i d inside.
      let below : i < length shards = omega (arith, length-enumerate_from 0 shards) in
      subst (IsOwn shards) (sym (get_or-enumerate_from 0 shards i d below))
      (omega arith, ap (shard_at shards) (omega arith) ∙ get_or_default shards i [] d.1 below));
  once = IsDistinct-keys_filter nat_eq (λ item. not (lost item.0)) (enumerate_from 0 shards) (once_numbered 0 shards);
}

numbered_any : (shards : List Shard) (i : ℕ) → i < length shards
    → list_any (λ item. nat_eq i item.0) (enumerate_from 0 shards) ≡ true
numbered_any shards i below =
    list_any_at (λ item. nat_eq i item.0) (enumerate_from 0 shards) i (0, [])
    (omega (arith, length-enumerate_from 0 shards))
    (ap (λ item. nat_eq i item.0) (get_or-enumerate_from 0 shards i (0, []) below) ∙ eq-eqb i (0 + i) (omega arith))

-- The shards that are not in the list of kept shards are the lost shards.
pub lost-kept : (shards : List Shard) (lost : ℕ → Bool) (i : ℕ)
    → lost_of shards (kept_of shards lost) i ≡ cond (nat_lt i (length shards) && lost i) (Some (shard_at shards i)) None
unfolding lost_of
lost-kept shards lost i = by_test (nat_lt i (length shards)) refl
  where
    twice : (b : Bool) → not (not b && true) ≡ b
    twice true = refl
    twice false = refl

    by_test : (inside : Bool) → nat_lt i (length shards) ≡ inside
        → cond (inside && not (list_any (λ item. nat_eq i item.0) (kept_of shards lost)))
        (Some (shard_at shards i)) None ≡ cond (inside && lost i) (Some (shard_at shards i)) None
    by_test false e = refl
    by_test true e =
        let any = any-filter_same (λ item. nat_eq i item.0) (λ item. not (lost item.0)) (not (lost i))
        (λ item same. ap (λ j. not (lost j)) (sym (eqb-true i item.0 same))) (enumerate_from 0 shards) in
        ap (λ b. cond (not b) (Some (shard_at shards i)) None)
        (any ∙ ap (λ b. not (lost i) && b) (numbered_any shards i (ltb-true i (length shards) e)))
        ∙ ap (λ b. cond b (Some (shard_at shards i)) None) (twice (lost i))

-- If a decoder returns the shards that are not kept, it returns exactly the lost shards.
pub just-lost : (shards : List Shard) (lost : ℕ → Bool) (result : Result Shards Error)
    → IfOk result (λ out. (i : ℕ) → out i ≡ lost_of shards (kept_of shards lost) i)
    → IfOk result (λ out. (i : ℕ) → out i ≡ cond (nat_lt i (length shards) && lost i) (Some (shard_at shards i)) None)
just-lost shards lost result h1 = search (rules, lost-kept)

-- If as many shards are left as there are originals, one-call `decode` fails only with `OutOfMemory`.
pub enough-left : (originals : List Shard) (kept received : Items) (result : Result Shards Error)
    → OneBringsBack originals kept received result
    → length originals ≤ length kept + length received → IfErr result (λ e. e ≡ OutOfMemory)
enough-left originals kept received result h1 h2 = search (rules, le-ltb)
