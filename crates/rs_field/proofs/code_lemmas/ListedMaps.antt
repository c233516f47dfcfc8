-- The list of the shards of a map: it is unique, and follows changes of all shards.
use Rattle.std.proofs.Common.{◌≡◌, ℕ, zero, suc, ◌+◌, ◌-◌, ◌≤◌, List, [], ◌++◌, All, refl, sym, ap, ◌∙◌}
use Rattle.std.proofs.Common.{subst, inl, inr, arith}
use Rattle.std.specs.Prelude.{Option, Some, None}
use Rattle.std.proofs.lemmas.Bool.{cases_lt}
use Rattle.std.proofs.lemmas.List.{map-append}
use Rattle.std.proofs.lemmas.List.Elements.{All-append, All-nil, All-cons}
use Rattle.rs_field.specs.code.Column.{Shard}
use Rattle.rs_field.specs.code.Given.{Shards, items_below, items_at, items_from, Lists}
use Rattle.rs_field.specs.code.OneCall.{Items}
use Rattle.rs_field.specs.code.PieceStates.{shards_listed}
use Rattle.rs_field.proofs.code_lemmas.Listed.{items_from-zero, items_from-suc}

-- After the last shard of a map, no shard is listed.
items_below-none : (n from : ℕ) (given : Shards) → ((i : ℕ) → from ≤ i → given i ≡ None) → items_from from n given ≡ []
items_below-none zero from given none = items_from-zero from given
items_below-none (suc n) from given none =
    items_from-suc from n given ∙ ap (λ o. items_at from o ++ items_from (suc from) n given) (none from (omega arith))
    ∙ items_below-none n (suc from) given (λ i h. none i (omega (arith, h)))

-- Listing indexes after the last shard of a map does not change the list.
items_below-longer : (n m from : ℕ) (given : Shards) → ((i : ℕ) → from + n ≤ i → given i ≡ None)
    → items_from from (n + m) given ≡ items_from from n given
items_below-longer zero m from given none =
    items_below-none (0 + m) from given (λ i h. none i (omega (arith, h))) ∙ sym (items_from-zero from given)
items_below-longer (suc n) m from given none =
    ap (λ (l : ℕ). items_from from l given) (let e : suc n + m ≡ suc (n + m) = omega arith in e)
    ∙ items_from-suc from (n + m) given
    ∙ ap (λ rest. items_at from (given from) ++ rest)
    (items_below-longer n m (suc from) given (λ i h. none i (omega (arith, h))))
    ∙ sym (items_from-suc from n given)

-- A map has at most one list of its shards.
pub lists-same : {given : Shards} {one other : Items} → Lists given one → Lists given other → one ≡ other
lists-same {given} first second = elim (cases_lt first.count second.count) [
  | inl less ↦ first.in_order ∙ sym (longer first.count second.count (omega arith) first.none_past)
      ∙ sym second.in_order
  | inr more ↦ first.in_order ∙ longer second.count first.count more second.none_past ∙ sym second.in_order
]
  where
    longer : (n m : ℕ) → n ≤ m → ((i : ℕ) → n ≤ i → given i ≡ None) → items_below m given ≡ items_below n given
    longer n m h none =
        ap (λ (l : ℕ). items_from 0 l given) (let e : m ≡ n + (m - n) = omega (arith, h) in e)
        ∙ items_below-longer n (m - n) 0 given (λ i past. none i (omega (arith, past)))

-- A property of each shard of a map is a property of each listed shard.
pub listed-all : (P : Shard → Type 0) (n from : ℕ) (given : Shards)
    → ((i : ℕ) (shard : Shard) → given i ≡ Some shard → P shard)
    → All P (shards_listed (items_from from n given))
listed-all P zero from given each =
    subst (λ (l : Items). All P (shards_listed l)) (sym (items_from-zero from given)) (All-nil P)
listed-all P (suc n) from given each =
    subst (λ (l : List Shard). All P l)
    (sym (ap shards_listed (items_from-suc from n given)
    ∙ map-append (λ item. item.1) (items_at from (given from)) (items_from (suc from) n given)))
    (All-append P (shards_listed (items_at from (given from))) (shards_listed (items_from (suc from) n given))
    (by_option (given from) refl) (listed-all P n (suc from) given each))
  where
    by_option : (o : Option Shard) → given from ≡ o → All P (shards_listed (items_at from o))
    by_option (Some s) is = All-cons P s [] (each from s is) (All-nil P)
    by_option None is = All-nil P
