-- The tables of products with each power of the generator, nibble by nibble: as words, and by bytes.
use Rattle.std.specs.Prelude.{◌≡◌, ℕ, ◌*◌, ◌/◌, ◌%◌, ◌^◌, ◌<◌, List, [], length, slice_index, slice_index_or}
use Rattle.rs_field.specs.words.Field.{product, power}
use Rattle.rs_field.specs.declared.words.table_types.Multiply128lutT.{Multiply128lutT}

-- word i is the word `i << 4n` times f
pub record IsNibbleList (n f : ℕ) (words : List ℕ) : Type 0 where
  pub entries : (i : ℕ) → i < 16 → slice_index words i ≡ product (i * 16 ^ n) f

-- word i of list n is the word `i << 4n` times f
pub record IsNibbles (f : ℕ) (entry : List (List ℕ)) : Type 0 where
  pub lists : (n : ℕ) → n < 4 → IsNibbleList n f (slice_index_or entry n [])

-- entry m has the products with the generator to the power m
pub record IsMul16 (table : List (List (List ℕ))) : Type 0 where
  pub size : length table ≡ 65536
  pub entries : (m : ℕ) → m < 65536 → IsNibbles (power m) (slice_index_or table m [])

-- byte i of a number, the lowest first
abbrev pub byte_at : ℕ → ℕ → ℕ
byte_at t i = t / 256 ^ i % 256

-- byte i of number n is the low byte of the word `i << 4n` times f
pub record AreLowNibbles (f : ℕ) (numbers : List ℕ) : Type 0 where
  pub low : (n i : ℕ) → n < 4 → i < 16 → byte_at (slice_index numbers n) i ≡ product (i * 16 ^ n) f % 256

-- byte i of number n is the high byte of the word `i << 4n` times f
pub record AreHighNibbles (f : ℕ) (numbers : List ℕ) : Type 0 where
  pub high : (n i : ℕ) → n < 4 → i < 16 → byte_at (slice_index numbers n) i ≡ product (i * 16 ^ n) f / 256

-- the products with one factor, by bytes
pub record IsNibbleBytes (f : ℕ) (entry : Multiply128lutT) : Type 0 where
  pub lo : AreLowNibbles f entry.lo
  pub hi : AreHighNibbles f entry.hi

-- entry m has the products with the generator to the power m, by bytes
pub record IsMul128 (table : List Multiply128lutT) : Type 0 where
  pub size : length table ≡ 65536
  pub entries : (m : ℕ) (d : Multiply128lutT) → m < 65536 → IsNibbleBytes (power m) (slice_index_or table m d)
