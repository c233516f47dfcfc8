-- The items that calls of an iterator returned, and the lists that begin with these items.
use Rattle.std.specs.Prelude.{◌≡◌, ℕ, Bool, true, List, [], ◌++◌, map, Option}
use Rattle.std.specs.Borrow.{Bor}
use Rattle.std.specs.Iterator.{DrainsIf}
use Rattle.rs_field.specs.code.Column.{Shard}
use Rattle.rs_field.specs.code.OneCall.{Items}

-- calls of `next` on an iterator returned these items, and then either the end, or `next` was not called again
pub record Calls {I A : Type 0} (steps : I → Option A → I → Type 0) (iterator : I) : Type 0 where
  pub items : List A
  pub ended : Bool
  pub gave : DrainsIf steps (ended ≡ true) iterator items

-- a list begins with the values under `view` of the items that calls returned, and it ends there if the calls reached
-- the end
abbrev pub Begins : {I A T : Type 0} {steps : I → Option A → I → Type 0} {iterator : I} → (A → T) → Calls steps iterator
    → List T → Type 0
Begins {T = T} view calls list =
    (more : List T) × (list ≡ map view calls.items ++ more) × (calls.ended ≡ true → more ≡ [])

-- a list begins with the shards that calls returned, and it ends there if the calls reached the end
abbrev pub BeginsWith : {I : Type 0} {steps : I → Option (Bor Shard) → I → Type 0} {iterator : I} → List Shard
    → Calls steps iterator → Type 0
BeginsWith shards calls = Begins (λ shard. shard.now) calls shards

-- a list begins with the shards and indexes that calls returned, and it ends there if the calls reached the end
abbrev pub BeginsWithItems : {I : Type 0} {steps : I → Option (ℕ × Bor Shard) → I → Type 0} {iterator : I} → Items
    → Calls steps iterator → Type 0
BeginsWithItems items calls = Begins (λ item. (item.0, item.1.now)) calls items
