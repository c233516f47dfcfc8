-- The shards of a map, listed with their indexes.
use Rattle.std.proofs.Common.{rules, ◌≡◌, ℕ, zero, suc, ◌+◌, ◌-◌, ◌<◌, ◌≤◌, [], ◌∷◌, ◌++◌, length, refl, sym, ap, ◌∙◌}
use Rattle.std.proofs.Common.{arith, length-append, append_assoc, append-nil, add-zero, ap₂}
use Rattle.std.specs.Prelude.{Some, None}
use Rattle.rs_field.specs.code.Column.{Shard}
use Rattle.rs_field.specs.code.Given.{Shards, items_at, items_from, items_below, count_below}
use Rattle.rs_field.proofs.code_lemmas.Given.{count_below-zero, count_below-suc}

pub items_from-zero : (from : ℕ) (given : Shards) → items_from from 0 given ≡ []
unfolding items_from
items_from-zero from given = refl

pub items_from-suc : (from n : ℕ) (given : Shards)
    → items_from from (suc n) given ≡ items_at from (given from) ++ items_from (suc from) n given
unfolding items_from
items_from-suc from n given = refl

-- If an index has no shard, the list from this index on is the list from the next index on.
pub items_from-none : (from n : ℕ) (given : Shards) → from < n → given from ≡ None
    → items_from from (n - from) given ≡ items_from (from + 1) (n - (from + 1)) given
items_from-none from n given inside none =
    ap (λ m. items_from from m given) (let m : n - from ≡ suc (n - (from + 1)) = omega arith in m)
    ∙ items_from-suc from (n - (from + 1)) given
    ∙ ap₂ (λ o i. items_at from o ++ items_from i (n - (from + 1)) given) none
    (let i : suc from ≡ from + 1 = omega arith in i)

-- If an index has a shard, the list from this index on begins with this shard.
pub items_from-some : (from n : ℕ) (given : Shards) (shard : Shard) → from < n → given from ≡ Some shard
    → items_from from (n - from) given ≡ (from, shard) ∷ items_from (from + 1) (n - (from + 1)) given
items_from-some from n given shard inside some =
    ap (λ m. items_from from m given) (let m : n - from ≡ suc (n - (from + 1)) = omega arith in m)
    ∙ items_from-suc from (n - (from + 1)) given
    ∙ ap₂ (λ o i. items_at from o ++ items_from i (n - (from + 1)) given) some
    (let i : suc from ≡ from + 1 = omega arith in i)

-- From the end on, no shard is listed.
pub items_from-past : (from n : ℕ) (given : Shards) → n ≤ from → items_from from (n - from) given ≡ []
items_from-past from n given past = search (rules, items_from-zero)

-- Listing one index more appends the shard of this index, if there is one.
pub items_from-more : (from n : ℕ) (given : Shards)
    → items_from from (suc n) given ≡ items_from from n given ++ items_at (from + n) (given (from + n))
items_from-more from zero given = search (rules, items_from-suc, items_from-zero, append-nil, add-zero)
items_from-more from (suc n) given = search (rules, items_from-suc, append_assoc, items_from-more (suc from) n given)

-- The number of listed shards is the number of indexes that have a shard.
pub length-listed : (n : ℕ) (given : Shards) → length (items_below n given) ≡ count_below n given
length-listed zero given = ap length (items_from-zero 0 given) ∙ sym (count_below-zero given)
length-listed (suc n) given = search (rules, items_from-more, length-append, count_below-suc, length-listed n given)
