-- Maps from index to shard, with one entry added at a time.
use Rattle.std.proofs.Common.{rules, ◌≡◌, ℕ, zero, suc, ◌+◌, ◌<◌, List, refl, sym, ap₂, ◌∙◌, ◌⊎◌, ◌≢◌, true, cond}
use Rattle.std.proofs.Common.{arith}
use Rattle.std.specs.Prelude.{Option, Some, is_some}
use Rattle.std.proofs.lemmas.Option.{none-some}
use Rattle.std.proofs.lemmas.Grind.{common_steps}
use Rattle.rs_field.specs.code.Column.{Shard, shard_at}
use Rattle.rs_field.specs.code.Given.{Shards, nothing, with_entry, count_below, AreAmong}

-- After a shard is entered in a map, each entry is this shard or an earlier entry.
pub entered_cases : (g : Shards) (k i : ℕ) (s : Shard) → ((i ≡ k) × (with_entry g k s i ≡ Some s))
    ⊎ ((i ≢ k) × (with_entry g k s i ≡ g i))
unfolding with_entry
entered_cases g k i s = grind (arith, common_steps)

-- The shards of the empty map are among any shards.
pub nothing_among : (xs : List Shard) → AreAmong nothing xs
nothing_among xs i shard e = absurd (none-some shard e)

-- Entering a shard of the list at its index keeps the shards of a map among the list.
pub entered_among : (g : Shards) (k : ℕ) (s : Shard) (xs : List Shard) → AreAmong g xs → shard_at xs k ≡ s
    → AreAmong (with_entry g k s) xs
entered_among g k s xs h is i shard e = grind (arith, common_steps, entered_cases)

pub count_below-zero : (given : Shards) → count_below 0 given ≡ 0
unfolding count_below
count_below-zero given = refl

pub count_below-suc : (n : ℕ) (given : Shards)
    → count_below (suc n) given ≡ count_below n given + cond (is_some (given n)) 1 0
unfolding count_below
count_below-suc n given = refl

pub count_below-same : (n : ℕ) (g h : Shards) → ((i : ℕ) → i < n → g i ≡ h i) → count_below n g ≡ count_below n h
count_below-same zero g h same = count_below-zero g ∙ sym (count_below-zero h)
count_below-same (suc n) g h same =
    count_below-suc n g ∙ ap₂ (λ m o. m + cond (is_some o) 1 0) (count_below-same n g h (λ i hi. same i (omega arith)))
    (same n (omega arith)) ∙ sym (count_below-suc n h)

-- An entry that has a shard is `Some` of a shard.
pub some_of : (o : Option Shard) → is_some o ≡ true → (shard : Shard) × (o ≡ Some shard)
some_of o h1 = search rules
