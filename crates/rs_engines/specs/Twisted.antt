-- Words in the basis of 1 and of the word 256 over the field of the words below 256.
use Rattle.std.specs.Prelude.{◌≡◌, ℕ, ◌*◌, ◌/◌, ◌%◌, ◌<◌, bit_xor}
use Rattle.rs_field.specs.words.Field.{product}
use Rattle.rs_field.specs.words.Products.{byte_at}

-- the low byte of a word plus its high byte times the word 256
unfoldable pub twisted : ℕ → ℕ
twisted w = bit_xor (w % 256) (product (w / 256) 256)

-- the products of the values of a low nibble and of a high nibble with f are bytes, and these numbers hold them
pub record AreByteProducts (f low high : ℕ) : Type 0 where
  pub of_low : (i : ℕ) → i < 16 → byte_at low i ≡ product i f
  pub of_high : (i : ℕ) → i < 16 → byte_at high i ≡ product (i * 16) f
