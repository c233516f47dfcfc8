-- Additive tables of bytes.
use Rattle.std.specs.Prelude.{◌≡◌, ℕ, ◌<◌, bit_xor}
use Rattle.rs_field.specs.words.Products.{byte_at}

-- the byte of a number at the XOR of two indexes is the XOR of the bytes at these indexes
pub record HasAdditiveBytes (t : ℕ) : Type 0 where
  pub sums : (i j : ℕ) → i < 16 → j < 16 → byte_at t (bit_xor i j) ≡ bit_xor (byte_at t i) (byte_at t j)
