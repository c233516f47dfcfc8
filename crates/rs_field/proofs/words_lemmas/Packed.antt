-- The bytes of a number that is a sum of bytes at their places.
use Rattle.std.proofs.lemmas.Grind.{common_steps}
use Rattle.std.proofs.lemmas.Nat.{div-mul-add, xor_block}
use Rattle.std.proofs.lemmas.Bool.{cases_eq, cases_lt}
use Rattle.std.proofs.Common.{bit_xor, ap₂, zero-mul, one-mul, ◌≡◌, ℕ, zero, suc, ◌+◌, ◌*◌, ◌/◌, ◌%◌, ◌^◌, ◌<◌, ◌≤◌}
use Rattle.std.proofs.Common.{◌-◌, sym, ap, ◌∙◌, arith, inl, inr, pow-suc, pow-add, mod-lt, mul_comm, mul-suc, mul-zero}
use Rattle.std.proofs.Common.{mul_assoc, mul-le-mul_right}
use Rattle.std.specs.Int.{sum_through, byte_worth}
use Rattle.std.proofs.Math.Nat.{add-mul-div_right, div-div-eq-div-mul}
use Rattle.std.specs.Int.Bits.{xor_shr, xor_mod, xor_zero_r}
use native.Mathlib.Nat.{pow-zero}

-- The power n of 2 ^ k is 2 ^ (k * n).
pub power_of : (k n : ℕ) → 2 ^ (k * n) ≡ (2 ^ k) ^ n
power_of k zero = ap (λ m. 2 ^ m) (mul-zero k) ∙ sym (pow-zero (2 ^ k))
power_of k (suc n) =
    ap (λ m. 2 ^ m) (mul-suc k n) ∙ pow-add 2 (k * n) k ∙ ap (λ p. p * 2 ^ k) (power_of k n) ∙ sym (pow-suc (2 ^ k) n)

-- The number whose bytes are the values of a map, the lowest first.
abbrev packed : (ℕ → ℕ) → ℕ → ℕ
packed g k = sum_through (λ i. byte_worth i (g i)) k

packed_lt : (g : ℕ → ℕ) → ((i : ℕ) → g i < 256) → (k : ℕ) → packed g k < 256 ^ suc k
packed_lt g small zero = small 0
packed_lt g small (suc k) =
    let before : packed g k < 256 ^ suc k = packed_lt g small k in
    let less : g (suc k) * 256 ^ suc k ≤ 255 * 256 ^ suc k = mul-le-mul_right (256 ^ suc k) (omega arith) in
    omega arith

bytes_pos : (i : ℕ) → 0 < 256 ^ i
bytes_pos zero = omega arith
bytes_pos (suc i) = let before = bytes_pos i in let next = pow-suc 256 i in omega arith

-- Adding a multiple of 256 ^ n does not change the bytes below place n.
past_byte : (low high i n : ℕ) → i < n → (low + high * 256 ^ n) / 256 ^ i % 256 ≡ low / 256 ^ i % 256
past_byte low high i n h =
    let rest : ℕ = high * 256 ^ (n - suc i) in
    let split : n ≡ suc (n - suc i) + i = omega arith in
    let top : high * 256 ^ n ≡ rest * 256 * 256 ^ i =
    ap (λ m. high * 256 ^ m) split
    ∙ ap (λ p. high * p) (pow-add 256 (suc (n - suc i)) i ∙ ap (λ p. p * 256 ^ i) (pow-suc 256 (n - suc i)))
    ∙ sym (mul_assoc high (256 ^ (n - suc i) * 256) (256 ^ i))
    ∙ ap (λ p. p * 256 ^ i) (sym (mul_assoc high (256 ^ (n - suc i)) 256)) in
    ap (λ m. (low + m) / 256 ^ i % 256) top ∙ ap (λ m. m % 256) (add-mul-div_right low (rest * 256) (bytes_pos i))
    ∙ (let gone : (low / 256 ^ i + rest * 256) % 256 ≡ low / 256 ^ i % 256 = omega arith in gone)

byte_of_packed : (g : ℕ → ℕ) → ((i : ℕ) → g i < 256) → (k i : ℕ) → i ≤ k → packed g k / 256 ^ i % 256 ≡ g i
byte_of_packed g small zero i h = grind (arith, common_steps)
byte_of_packed g small (suc k) i h =
    elim (cases_eq i (suc k)) [
      | inl e ↦
          ap (λ i. packed g (suc k) / 256 ^ i % 256) e
          ∙ ap (λ n. n / 256 ^ suc k % 256) (omega arith)
          ∙ ap (λ n. n % 256) (div-mul-add (g (suc k)) (256 ^ suc k) (packed g k) (packed_lt g small k))
          ∙ (let small : g (suc k) % 256 ≡ g (suc k) = omega arith in small)
          ∙ ap g (sym e)
      | inr apart ↦ past_byte (packed g k) (g (suc k)) i (suc k) (omega arith)
          ∙ byte_of_packed g small k i (omega arith)
    ]

byte_xor : (x y i : ℕ) → bit_xor x y / 256 ^ i % 256 ≡ bit_xor (x / 256 ^ i % 256) (y / 256 ^ i % 256)
byte_xor x y i = cc (power_of 8 i, xor_shr x y (8 * i), xor_mod (x / 2 ^ (8 * i)) (y / 2 ^ (8 * i)) 8)

low_half : (low high i : ℕ) → i < 8 → (low + 2 ^ 64 * high) / 256 ^ i % 256 ≡ low / 256 ^ i % 256
low_half low high i h = ap (λ n. (low + n) / 256 ^ i % 256) (mul_comm (2 ^ 64) high) ∙ past_byte low high i 8 h

high_half : (low high j : ℕ) → low < 2 ^ 64 → (low + 2 ^ 64 * high) / 256 ^ (8 + j) % 256 ≡ high / 256 ^ j % 256
high_half low high j h =
    ap (λ p. (low + 2 ^ 64 * high) / p % 256) (pow-add 256 8 j)
    ∙ ap (λ n. n % 256) (sym (div-div-eq-div-mul (low + 2 ^ 64 * high) (256 ^ 8) (256 ^ j)))
    ∙ ap (λ n. n / 256 ^ j % 256) (let e : (low + 2 ^ 64 * high) / 2 ^ 64 ≡ high = omega arith in e)

digit_lt : (d a : ℕ) → d < 2 → a < 256 → d * a < 256
digit_lt d a h1 h2 = grind (arith, common_steps, zero-mul, one-mul)

-- Byte i of a number that has the byte a at the places whose bit b is set.
byte_of_places : (b a x : ℕ) → a < 256 → x ≡ packed (λ (i : ℕ). i / 2 ^ b % 2 * a) 7 → (i : ℕ) → i < 8
    → x / 256 ^ i % 256 ≡ i / 2 ^ b % 2 * a
byte_of_places b a x ha e i h =
    cc (byte_of_packed (λ (i : ℕ). i / 2 ^ b % 2 * a)
    (λ i. digit_lt (i / 2 ^ b % 2) a (mod-lt (i / 2 ^ b) (omega arith)) ha) 7 i (omega arith))

-- Byte i of the sum of four products is the sum of the words among a, b, c and d whose bit is set in i.
pub spread_bytes : (a b c d x y z w n i : ℕ) → a < 256 → b < 256 → c < 256 → d < 256
    → x ≡ 72058693566333184 * a → y ≡ 72339069031481344 * b → z ≡ 72340172821233664 * c → w ≡ 72340172838076673 * d
    → bit_xor (bit_xor x y) z < 2 ^ 64
    → n ≡ bit_xor (bit_xor x y) z + 2 ^ 64 * bit_xor (bit_xor (bit_xor x y) z) w → i < 16
    → n / 256 ^ i % 256 ≡ bit_xor (bit_xor (bit_xor (i / 2 ^ 0 % 2 * a) (i / 2 ^ 1 % 2 * b)) (i / 2 ^ 2 % 2 * c))
    (i / 2 ^ 3 % 2 * d)
spread_bytes a b c d x y z w n i ha hb hc hd ex ey ez ew lt en hi =
    ap (λ n. n / 256 ^ i % 256) en
    ∙ elim (cases_lt i 8) [
      | inl less ↦
          low_half low high i less ∙ three i less ∙ sym (xor_zero_r _)
          ∙ ap (bit_xor (sum i)) (sym (ap (λ t. t * d) (let none : i / 8 % 2 ≡ 0 = omega arith in none) ∙ zero-mul d))
      | inr more ↦
          let j : ℕ = i - 8 in
          let e : i ≡ 8 + j = omega arith in
          let small : j < 8 = omega arith in
          ap (λ i. (low + 2 ^ 64 * high) / 256 ^ i % 256) e ∙ high_half low high j lt ∙ byte_xor low w j
          ∙ ap₂ bit_xor (three j small ∙ same j e small)
          (byte_of_ones j small ∙ sym (ap (λ t. t * d) (let one : i / 8 % 2 ≡ 1 = omega arith in one) ∙ one-mul d))
    ]
  where
    low : ℕ
    low = bit_xor (bit_xor x y) z

    high : ℕ
    high = bit_xor low w

    sum : ℕ → ℕ
    sum i = bit_xor (bit_xor (i / 2 ^ 0 % 2 * a) (i / 2 ^ 1 % 2 * b)) (i / 2 ^ 2 % 2 * c)

    three : (i : ℕ) → i < 8 → low / 256 ^ i % 256 ≡ sum i
    three i h =
        byte_xor (bit_xor x y) z i
        ∙ ap₂ bit_xor (byte_xor x y i
        ∙ ap₂ bit_xor (byte_of_places 0 a x ha (omega (arith, ex)) i h)
        (byte_of_places 1 b y hb (omega (arith, ey)) i h))
        (byte_of_places 2 c z hc (omega (arith, ez)) i h)

    same : (j : ℕ) → i ≡ 8 + j → j < 8 → sum j ≡ sum i
    same j e h =
        ap₂ bit_xor
        (ap₂ bit_xor (ap (λ t. t * a) (let f : j / 1 % 2 ≡ i / 1 % 2 = omega arith in f))
        (ap (λ t. t * b) (let f : j / 2 % 2 ≡ i / 2 % 2 = omega arith in f)))
        (ap (λ t. t * c) (let f : j / 4 % 2 ≡ i / 4 % 2 = omega arith in f))

    byte_of_ones : (j : ℕ) → j < 8 → w / 256 ^ j % 256 ≡ d
    byte_of_ones j h = ap (λ w. w / 256 ^ j % 256) (let e : w ≡ packed (λ (i : ℕ). d) 7 = omega (arith, ew) in e)
        ∙ byte_of_packed (λ (i : ℕ). d) (λ i. hd) 7 j (omega arith)

-- The bytes of a sum are the sums of the bytes.
pub sum_of_bytes : (a b c d : ℕ) → a < 256 → c < 256
    → bit_xor a c + 256 * bit_xor b d ≡ bit_xor (a + 256 * b) (c + 256 * d)
sum_of_bytes a b c d p q =
    let whole = xor_block 8 b d a c p q in
    let left : b * 256 + a ≡ a + 256 * b = omega arith in
    let right : d * 256 + c ≡ c + 256 * d = omega arith in
    let ends : bit_xor a c + 256 * bit_xor b d ≡ bit_xor b d * 256 + bit_xor a c = omega arith in
    ends ∙ sym whole ∙ ap (λ n. bit_xor n (d * 256 + c)) left ∙ ap (λ n. bit_xor (a + 256 * b) n) right
