-- The laws of the field.
use Rattle.std.specs.Prelude.{ℕ, ◌≡◌, ◌<◌, bit_xor}
use Rattle.rs_field.specs.words.Field.{bits, carryless, reduce, product, power, log, generator}

-- a word
abbrev pub IsWord : ℕ → Type 0
IsWord x = x < 65536

-- the words with XOR and `product` are a field
pub record IsField : Type 0 where
  pub sum_word : (x y : ℕ) → IsWord x → IsWord y → IsWord (bit_xor x y)
  pub sum_comm : (x y : ℕ) → bit_xor x y ≡ bit_xor y x
  pub sum_assoc : (x y z : ℕ) → bit_xor (bit_xor x y) z ≡ bit_xor x (bit_xor y z)
  pub sum_zero : (x : ℕ) → bit_xor x 0 ≡ x
  pub sum_self : (x : ℕ) → bit_xor x x ≡ 0
  pub product_word : (x y : ℕ) → IsWord (product x y)
  pub product_comm : (x y : ℕ) → IsWord x → IsWord y → product x y ≡ product y x
  pub product_assoc : (x y z : ℕ) → IsWord x → IsWord y → IsWord z → product (product x y) z ≡ product x (product y z)
  pub product_one : (x : ℕ) → IsWord x → product x 1 ≡ x
  pub distributive : (x y z : ℕ) → product x (bit_xor y z) ≡ bit_xor (product x y) (product x z)
  pub inverse : (x : ℕ) → 0 < x → IsWord x → (y : ℕ) × IsWord y × (product x y ≡ 1)

-- `product` is the only word with the reduced shift-and-XOR product as its `bits`
pub record IsProductOfBits : Type 0 where
  pub bits_of : (x y : ℕ) → IsWord x → IsWord y → bits (product x y) ≡ reduce 16 (carryless 16 (bits x) (bits y))
  pub only : (x y z : ℕ) → IsWord x → IsWord y → IsWord z → bits z ≡ bits (product x y) → z ≡ product x y

-- the nonzero words are the 65535 powers of the generator, of which the 65535th is 1
pub record IsGenerated : Type 0 where
  pub generator_bits : bits generator ≡ 2
  pub each : (z : ℕ) → 0 < z → IsWord z → (log z < 65535) × (power (log z) ≡ z)
  pub once : (m n : ℕ) → m < 65535 → n < 65535 → power m ≡ power n → m ≡ n
  pub nonzero : (n : ℕ) → (0 < power n) × IsWord (power n)
  pub turn : power 65535 ≡ 1
