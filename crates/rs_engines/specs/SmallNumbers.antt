-- The numbers in which the products with a small factor are looked up.
use Rattle.std.specs.Prelude.{◌≡◌, ℕ, List, [], ◌∷◌, slice_index}
use Rattle.rs_field.specs.declared.words.table_types.Multiply128lutT.{Multiply128lutT}

-- the products with a factor are looked up in six numbers: low bytes have no high byte in their products, `low` has the
-- low bytes of all products, and the other two numbers have the high bytes of the products of high bytes
pub record HasSmallNumbers (products : Multiply128lutT) (low : List ℕ) (third fourth : ℕ) : Type 0 where
  pub no_low_nibbles : slice_index products.hi 0 ≡ 0
  pub no_high_nibbles : slice_index products.hi 1 ≡ 0
  pub low_bytes : products.lo ≡ low
  pub low_nibbles : slice_index products.hi 2 ≡ third
  pub high_nibbles : slice_index products.hi 3 ≡ fourth

-- the products with a small factor, of which four numbers hold the low bytes: the products of high bytes have the same
-- bytes, one place up, as those of low bytes
abbrev pub of_four_numbers : List ℕ → Multiply128lutT
of_four_numbers numbers = record {
  lo = numbers;
  hi = 0 ∷ 0 ∷ slice_index numbers 0 ∷ slice_index numbers 1 ∷ [];
}
