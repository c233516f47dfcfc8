-- Additive tables of bytes: the tables of products are additive, and a byte of an additive table is a sum over bits.
use Rattle.std.proofs.Common.{◌≡◌, ℕ, zero, suc, ◌*◌, ◌/◌, ◌%◌, ◌^◌, ◌<◌, List, map, length, get_or, replicate, refl}
use Rattle.std.proofs.Common.{sym, ap, ap₂, ◌∙◌, arith, bit_and, bit_xor, cond, eqb, false, mod-lt, w8}
use Rattle.std.specs.Int.{bit_at}
use Rattle.std.specs.Int.Bits.{xor_comm, xor_zero_r, xor_shr}
use Rattle.std.proofs.lemmas.Nat.{xor_lt, pow_pos}
use Rattle.std.proofs.lemmas.Nat.Bits.{and_pow}
use Rattle.std.proofs.lemmas.Grind.{common_steps}
use lib.Lanes.{zip2, sel_l, top}
use Rattle.std.proofs.lemmas.Simd.{tops_compared, length-zip2, length-replicate, get_or-sel_l, get_or-zip2}
use Rattle.std.proofs.lemmas.Simd.{get_or-replicate}
use Rattle.rs_field.specs.words.Products.{byte_at}
use Rattle.rs_field.proofs.words_lemmas.Linear.{IsAdditive, xor_times_pow, xor_swap, lowest_xor, agree_below}
use Rattle.rs_field.proofs.words_lemmas.Packed.{power_of}
use Rattle.rs_engines.specs.Additive.{HasAdditiveBytes}

-- If the bytes of a number are the values of an additive map at the values of a nibble, they are additive.
pub nibble_bytes : (f : ℕ → ℕ) → IsAdditive 16 f → (t n : ℕ) → n < 4
    → ((p : ℕ) → p < 16 → byte_at t p ≡ f (p * 16 ^ n)) → HasAdditiveBytes t
nibble_bytes f hf t n hn are = record {
  sums = λ i j hi hj.
      let shifted : (p : ℕ) → p * 16 ^ n ≡ p * 2 ^ (4 * n) = λ p. ap (λ q. p * q) (sym (power_of 4 n)) in
      are (bit_xor i j) (xor_lt 4 i j hi hj)
      ∙ ap f (shifted (bit_xor i j) ∙ xor_times_pow (4 * n) i j ∙ sym (ap₂ bit_xor (shifted i) (shifted j)))
      ∙ hf.xor (i * 16 ^ n) (j * 16 ^ n) (small n i hn hi) (small n j hn hj)
      ∙ sym (ap₂ bit_xor (are i hi) (are j hj));
}
  where
    small : (n p : ℕ) → n < 4 → p < 16 → p * 16 ^ n < 65536
    small zero p hn hp = omega arith
    small (suc zero) p hn hp = omega arith
    small (suc (suc zero)) p hn hp = omega arith
    small (suc (suc (suc zero))) p hn hp = omega arith
    small (suc (suc (suc (suc n)))) p hn hp = absurd (omega arith)

-- A number, if this bit is set, and otherwise zero.
abbrev digit : ℕ → ℕ → ℕ → ℕ
digit k b n = n / 2 ^ k % 2 * b

-- The sum of four numbers, one for each bit that is set in a nibble.
abbrev pub by_bits : ℕ → ℕ → ℕ → ℕ → ℕ → ℕ
by_bits b1 b2 b4 b8 n = bit_xor (bit_xor (digit 0 b1 n) (digit 1 b2 n)) (bit_xor (digit 2 b4 n) (digit 3 b8 n))

digit_additive : (k b : ℕ) → IsAdditive 4 (digit k b)
digit_additive k b = record {
  xor = λ x y hx hy. ap (λ z. z % 2 * b) (xor_shr x y k) ∙ lowest_xor (x / 2 ^ k) (y / 2 ^ k) b;
}

sum_additive : (f g : ℕ → ℕ) → IsAdditive 4 f → IsAdditive 4 g → IsAdditive 4 (λ n. bit_xor (f n) (g n))
sum_additive f g hf hg = record {
  xor = λ x y hx hy. ap₂ bit_xor (hf.xor x y hx hy) (hg.xor x y hx hy) ∙ xor_swap (f x) (f y) (g x) (g y);
}

by_bits_additive : (b1 b2 b4 b8 : ℕ) → IsAdditive 4 (by_bits b1 b2 b4 b8)
by_bits_additive b1 b2 b4 b8 =
    sum_additive (λ n. bit_xor (digit 0 b1 n) (digit 1 b2 n)) (λ n. bit_xor (digit 2 b4 n) (digit 3 b8 n))
    (sum_additive (digit 0 b1) (digit 1 b2) (digit_additive 0 b1) (digit_additive 1 b2))
    (sum_additive (digit 2 b4) (digit 3 b8) (digit_additive 2 b4) (digit_additive 3 b8))

-- Equal parts have equal sums.
sum_of_four : (a b c d x y z w : ℕ) → a ≡ x → b ≡ y → c ≡ z → d ≡ w
    → bit_xor (bit_xor a b) (bit_xor c d) ≡ bit_xor (bit_xor x y) (bit_xor z w)
sum_of_four a b c d x y z w ha hb hc hd = ap₂ bit_xor (ap₂ bit_xor ha hb) (ap₂ bit_xor hc hd)

-- The sum over the bits of 1, 2, 4 or 8 is the number of the only bit that is set.
at_power : (b1 b2 b4 b8 : ℕ) (f : ℕ → ℕ) → b1 ≡ f 1 → b2 ≡ f 2 → b4 ≡ f 4 → b8 ≡ f 8 → (i : ℕ) → i < 4
    → by_bits b1 b2 b4 b8 (2 ^ i) ≡ f (2 ^ i)
at_power b1 b2 b4 b8 f e1 e2 e4 e8 zero h =
    sum_of_four (digit 0 b1 1) (digit 1 b2 1) (digit 2 b4 1) (digit 3 b8 1) b1 0 0 0 (omega arith) (omega arith)
    (omega arith) (omega arith) ∙ grind (arith, xor_comm, xor_zero_r, e1)
at_power b1 b2 b4 b8 f e1 e2 e4 e8 (suc zero) h =
    sum_of_four (digit 0 b1 2) (digit 1 b2 2) (digit 2 b4 2) (digit 3 b8 2) 0 b2 0 0 (omega arith) (omega arith)
    (omega arith) (omega arith) ∙ grind (arith, xor_comm, xor_zero_r, e2)
at_power b1 b2 b4 b8 f e1 e2 e4 e8 (suc (suc zero)) h =
    sum_of_four (digit 0 b1 4) (digit 1 b2 4) (digit 2 b4 4) (digit 3 b8 4) 0 0 b4 0 (omega arith) (omega arith)
    (omega arith) (omega arith) ∙ grind (arith, xor_comm, xor_zero_r, e4)
at_power b1 b2 b4 b8 f e1 e2 e4 e8 (suc (suc (suc zero))) h =
    sum_of_four (digit 0 b1 8) (digit 1 b2 8) (digit 2 b4 8) (digit 3 b8 8) 0 0 0 b8 (omega arith) (omega arith)
    (omega arith) (omega arith) ∙ grind (arith, xor_comm, xor_zero_r, e8)
at_power b1 b2 b4 b8 f e1 e2 e4 e8 (suc (suc (suc (suc i)))) h = absurd (omega arith)

-- A byte of an additive table is the sum of the bytes at 1, 2, 4 and 8 for the bits that are set in the index.
pub byte_by_bits : (t : ℕ) → HasAdditiveBytes t → (i : ℕ) → i < 16
    → by_bits (byte_at t 1) (byte_at t 2) (byte_at t 4) (byte_at t 8) i ≡ byte_at t i
byte_by_bits t additive i h =
    agree_below {g = byte_at t}
    (by_bits_additive (byte_at t 1) (byte_at t 2) (byte_at t 4) (byte_at t 8)) (record { xor = additive.sums })
    (at_power (byte_at t 1) (byte_at t 2) (byte_at t 4) (byte_at t 8) (byte_at t) refl refl refl refl) 4 (omega arith)
    i h

-- A choice between a byte and zero by one bit is the bit times the byte.
chosen : (d p byte : ℕ) → d < 2 → 0 < p → cond (eqb (d * p) p) byte 0 ≡ d * byte
chosen zero p byte hd hp = grind (arith, common_steps)
chosen (suc zero) p byte hd hp = grind (arith, common_steps)
chosen (suc (suc d)) p byte hd hp = absurd (omega arith)

-- The lanes of a choice between a byte and zero, by one bit of each lane of v.
pub byte_if_bit : (v : List ℕ) (bit byte k i : ℕ) → length v ≡ 16 → bit ≡ 2 ^ k → i < 16
    → get_or (sel_l (map (top 7) (zip2 (λ a b. cond (eqb a b) 255 0) (zip2 bit_and v (replicate 16 bit))
    (replicate 16 bit))) (replicate 16 byte) (replicate 16 0)) i 0
    ≡ bit_at (get_or v i 0) k * byte
byte_if_bit v bit byte k i long is h =
    let bits : List ℕ = replicate 16 bit in
    let many : length bits ≡ 16 = length-replicate 16 bit in
    let masked : List ℕ = zip2 bit_and v bits in
    let long_masked : length masked ≡ 16 = length-zip2 bit_and v bits (long ∙ sym many) ∙ long in
    let long_chosen : length (zip2 eqb masked bits) ≡ 16 =
    length-zip2 eqb masked bits (long_masked ∙ sym many) ∙ long_masked in
    let here : get_or masked i 0 ≡ bit_at (get_or v i 0) k * 2 ^ k =
    get_or-zip2 bit_and v bits i 0 0 0 (omega arith) (omega arith)
    ∙ ap (bit_and (get_or v i 0)) (get_or-replicate 16 i bit 0 h ∙ is) ∙ and_pow (get_or v i 0) k in
    ap (λ ms. get_or (sel_l ms (replicate 16 byte) (replicate 16 0)) i 0) (tops_compared w8 eqb masked bits)
    ∙ get_or-sel_l (zip2 eqb masked bits) (replicate 16 byte) (replicate 16 0) i 0 (omega arith)
    (omega (arith, length-replicate {A = ℕ} 16 byte)) (omega (arith, length-replicate {A = ℕ} 16 0))
    ∙ ap (λ t. cond t (get_or (replicate 16 byte) i 0) (get_or (replicate 16 0) i 0))
    (get_or-zip2 eqb masked bits i 0 0 false (omega arith) (omega arith)
    ∙ ap₂ eqb here (get_or-replicate 16 i bit 0 h ∙ is))
    ∙ ap₂ (cond (eqb (bit_at (get_or v i 0) k * 2 ^ k) (2 ^ k))) (get_or-replicate 16 i byte 0 h)
    (get_or-replicate 16 i 0 0 h)
    ∙ chosen (bit_at (get_or v i 0) k) (2 ^ k) byte (mod-lt (get_or v i 0 / 2 ^ k) (omega arith)) (pow_pos k)
