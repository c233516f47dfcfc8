-- Counts of steps: exact ones, bounds, and what a transform, a locator and the product of a row may count.
use Rattle.std.specs.Prelude.{◌≡◌, ℕ, ◌+◌, ◌*◌, ◌/◌, ◌^◌, ◌≤◌, nat_le}
use Rattle.rs_field.specs.declared.words.steps.Steps.{Steps}
use Rattle.rs_field.specs.words.Search.{first_below}

-- no count fell, and each rose by no more than its bound
pub record CountsUpTo (row_steps pair_sums products : ℕ) (old new : Steps) : Type 0 where
  pub row_steps_rise : old.row_steps ≤ new.row_steps
  pub pair_sums_rise : old.pair_sums ≤ new.pair_sums
  pub products_rise : old.products ≤ new.products
  pub row_steps_most : new.row_steps ≤ old.row_steps + row_steps
  pub pair_sums_most : new.pair_sums ≤ old.pair_sums + pair_sums
  pub products_most : new.products ≤ old.products + products

-- exactly n row steps were counted and nothing else
abbrev pub CountsRows : ℕ → Steps → Steps → Type 0
CountsRows n old new =
    (new.row_steps ≡ old.row_steps + n) × (new.pair_sums ≡ old.pair_sums) × (new.products ≡ old.products)

-- exactly n pair sums were counted and nothing else
abbrev pub CountsPairs : ℕ → Steps → Steps → Type 0
CountsPairs n old new =
    (new.row_steps ≡ old.row_steps) × (new.pair_sums ≡ old.pair_sums + n) × (new.products ≡ old.products)

-- exactly n products were counted and nothing else
abbrev pub CountsProducts : ℕ → Steps → Steps → Type 0
CountsProducts n old new =
    (new.row_steps ≡ old.row_steps) × (new.pair_sums ≡ old.pair_sums) × (new.products ≡ old.products + n)

-- the logarithm to base 2 of a power of two
unfoldable pub log2 : ℕ → ℕ
log2 n = first_below 64 (λ d. nat_le n (2 ^ d))

-- the row steps of a transform of n rows
unfoldable pub transform_steps : ℕ → ℕ
transform_steps n = n / 2 * log2 n

-- what a Walsh-Hadamard transform of n entries may count: n/2 * log2 n pair sums
abbrev pub WalshCounts : ℕ → Steps → Steps → Type 0
WalshCounts n old new = CountsUpTo 0 (transform_steps n) 0 old new

-- what a locator of n points may count: n * log2 n pair sums and n products, and no row step
abbrev pub LocatorCountsBelow : ℕ → Steps → Steps → Type 0
LocatorCountsBelow n old new = CountsUpTo 0 (n * log2 n) n old new

-- what a locator of any number of points may count, up to all 65536
abbrev pub LocatorCounts : Steps → Steps → Type 0
LocatorCounts old new = CountsUpTo 0 1048576 65536 old new

-- what a transform of n rows may count
abbrev pub TransformCounts : ℕ → Steps → Steps → Type 0
TransformCounts n old new = CountsUpTo (transform_steps n) 0 0 old new

-- what the product of a row may count
abbrev pub RowProductCounts : Steps → Steps → Type 0
RowProductCounts old new = CountsUpTo 1 0 0 old new

-- what the sum of a row and a multiple of another row may count: two products of a row and one sum
abbrev pub RowSumCounts : Steps → Steps → Type 0
RowSumCounts old new = CountsUpTo 3 0 0 old new

-- what the change of n chunks, one after the other, may count
abbrev pub ChangeCounts : ℕ → Steps → Steps → Type 0
ChangeCounts n old new = CountsUpTo (3 * n) 0 0 old new
