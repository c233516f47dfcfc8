-- The sixteen products of a nibble, from the products of 1, 2, 4 and 8.
use Rattle.std.proofs.lemmas.Grind.{common_steps}
use Rattle.std.proofs.lemmas.Nat.{and_mask}
use Rattle.std.proofs.Common.{bit_and, ◌/◌, ◌%◌, ◌≡◌, ℕ, zero, suc, ◌*◌, ◌^◌, ◌<◌, List, [], ◌∷◌, get_or, bit_xor, sym}
use Rattle.std.proofs.Common.{ap, ap₂, ◌∙◌, arith, zero-mul, one-mul, length, ◌+◌, add-zero, zero-add, rules}
use Rattle.std.specs.Int.Bits.{xor_mod, xor_shr, xor_zero_r}
use Rattle.rs_field.specs.words.Field.{product}
use Rattle.rs_field.specs.words.Products.{IsNibbleList}
use Rattle.rs_field.proofs.words_lemmas.Linear.{IsAdditive, additive_zero, agree_below, lowest_xor, xor_swap}
use Rattle.rs_field.proofs.words_lemmas.Linear.{xor_times_pow}
use Rattle.rs_field.proofs.words_lemmas.Product.{product_xor_left}
use Rattle.rs_field.proofs.words_lemmas.Packed.{power_of}

-- The product with words that are shifted by whole nibbles keeps sums.
pub nibble_additive : (n f : ℕ) → IsAdditive 4 (λ i. product (i * 16 ^ n) f)
nibble_additive n f = record {
  xor = λ a b ha hb.
      let shifted : (a : ℕ) → a * 16 ^ n ≡ a * 2 ^ (4 * n) = λ a. ap (λ p. a * p) (sym (power_of 4 n)) in
      ap (λ w. product w f)
      (shifted (bit_xor a b) ∙ xor_times_pow (4 * n) a b ∙ sym (ap₂ bit_xor (shifted a) (shifted b)))
      ∙ product_xor_left (a * 16 ^ n) (b * 16 ^ n) f;
}

-- Entry i is the sum of the words among a, b, c and d whose bit is set in i.
abbrev sixteen_sums : ℕ → ℕ → ℕ → ℕ → List ℕ
sixteen_sums a b c d =
    0 ∷ a ∷ b ∷ bit_xor a b ∷ c ∷ bit_xor a c ∷ bit_xor b c ∷ bit_xor (bit_xor a b) c
    ∷ d ∷ bit_xor a d ∷ bit_xor b d ∷ bit_xor (bit_xor a b) d ∷ bit_xor c d ∷ bit_xor a (bit_xor c d) ∷ bit_xor b
    (bit_xor c d) ∷ bit_xor (bit_xor a b) (bit_xor c d) ∷ []

-- Each entry of a list is the map's value at its place, counted from k on.
abbrev AreValues : (ℕ → ℕ) → ℕ → List ℕ → Type 0
AreValues f k [] = Unit {0}
AreValues f k (x ∷ xs) = (x ≡ f k) × AreValues f (suc k) xs

value_at : (f : ℕ → ℕ) (k : ℕ) (xs : List ℕ) → AreValues f k xs → (i : ℕ) → i < length xs → get_or xs i 0 ≡ f (k + i)
value_at f k [] are i h = absurd (omega arith)
value_at f k (x ∷ xs) are zero h = are.0 ∙ ap f (sym (add-zero k))
value_at f k (x ∷ xs) are (suc i) h = value_at f (suc k) xs are.1 i (omega arith) ∙ ap f (omega arith)

-- If a, b, c and d are the values of an additive map at 1, 2, 4 and 8, the sixteen sums are the values of the map.
pub sixteen : {f : ℕ → ℕ} → IsAdditive 4 f → {a b c d : ℕ} → a ≡ f 1 → b ≡ f 2 → c ≡ f 4 → d ≡ f 8 → (i : ℕ) → i < 16
    → get_or (sixteen_sums a b c d) i 0
    ≡ f i
sixteen {f} hf {a} {b} {c} {d} ea eb ec ed i hi =
    value_at f 0 (sixteen_sums a b c d) (search (rules, sym (additive_zero hf), both)) i hi ∙ ap f (zero-add i)
  where
    both : (x y p q n : ℕ) → x ≡ f p → y ≡ f q → bit_xor p q ≡ n → p < 16 → q < 16 → bit_xor x y ≡ f n
    both x y p q n ex ey is hp hq = ap₂ bit_xor ex ey ∙ sym (hf.xor p q hp hq) ∙ ap f is

low_nibble_additive : (n f : ℕ) → IsAdditive 4 (λ i. product (i * 16 ^ n) f % 256)
low_nibble_additive n f = record {
  xor = λ a b ha hb. ap (λ w. w % 256) ((nibble_additive n f).xor a b ha hb)
      ∙ xor_mod (product (a * 16 ^ n) f) (product (b * 16 ^ n) f) 8;
}

high_nibble_additive : (n f : ℕ) → IsAdditive 4 (λ i. product (i * 16 ^ n) f / 256)
high_nibble_additive n f = record {
  xor = λ a b ha hb. ap (λ w. w / 256) ((nibble_additive n f).xor a b ha hb)
      ∙ xor_shr (product (a * 16 ^ n) f) (product (b * 16 ^ n) f) 8;
}

digit_additive : (w k c : ℕ) → IsAdditive w (λ i. i / 2 ^ k % 2 * c)
digit_additive w k c =
    record { xor = λ a b ha hb. ap (λ i. i % 2 * c) (xor_shr a b k) ∙ lowest_xor (a / 2 ^ k) (b / 2 ^ k) c }

sum_additive : {w : ℕ} {f g : ℕ → ℕ} → IsAdditive w f → IsAdditive w g → IsAdditive w (λ i. bit_xor (f i) (g i))
sum_additive hf hg = grind (arith, common_steps, xor_swap)

-- The sum of the words among a, b, c and d whose bit is set in i.
abbrev at_bits : ℕ → ℕ → ℕ → ℕ → ℕ → ℕ
at_bits a b c d i = bit_xor (bit_xor (bit_xor (i / 2 ^ 0 % 2 * a) (i / 2 ^ 1 % 2 * b)) (i / 2 ^ 2 % 2 * c))
    (i / 2 ^ 3 % 2 * d)

at_bits_additive : (a b c d : ℕ) → IsAdditive 4 (at_bits a b c d)
at_bits_additive a b c d =
    sum_additive (sum_additive (sum_additive (digit_additive 4 0 a) (digit_additive 4 1 b))
    (digit_additive 4 2 c)) (digit_additive 4 3 d)

-- An additive map of four bits is determined by its values at 1, 2, 4 and 8.
four_bits : {f : ℕ → ℕ} → IsAdditive 4 f → {a b c d : ℕ} (i : ℕ) → a ≡ f 1 → b ≡ f 2 → c ≡ f 4 → d ≡ f 8 → i < 16
    → at_bits a b c d i ≡ f i
four_bits {f} hf {a} {b} {c} {d} i ea eb ec ed h =
    agree_below (at_bits_additive a b c d) hf same 4 (omega arith) i h
  where
    same : (k : ℕ) → k < 4 → at_bits a b c d (2 ^ k) ≡ f (2 ^ k)
    same zero h = ap₂ bit_xor (ap₂ bit_xor (ap₂ bit_xor (one-mul a) (zero-mul b)) (zero-mul c)) (zero-mul d)
        ∙ xor_zero_r _ ∙ xor_zero_r _ ∙ xor_zero_r a ∙ ea
    same (suc zero) h = ap₂ bit_xor (ap₂ bit_xor (ap₂ bit_xor (zero-mul a) (one-mul b)) (zero-mul c)) (zero-mul d)
        ∙ xor_zero_r _ ∙ xor_zero_r b ∙ eb
    same (suc (suc zero)) h = ap₂ bit_xor (ap₂ bit_xor (ap₂ bit_xor (zero-mul a) (zero-mul b)) (one-mul c)) (zero-mul d)
        ∙ xor_zero_r c ∙ ec
    same (suc (suc (suc zero))) h =
        ap₂ bit_xor (ap₂ bit_xor (ap₂ bit_xor (zero-mul a) (zero-mul b)) (zero-mul c)) (one-mul d) ∙ ed
    same (suc (suc (suc (suc k)))) h = absurd (omega arith)

-- The low byte of each product, from the low bytes of the products of 1, 2, 4 and 8.
pub low_of_four : (n f : ℕ) (words : List ℕ) (i : ℕ) → IsNibbleList n f words → i < 16
    → at_bits (bit_and (get_or words 1 0) 255) (bit_and (get_or words 2 0) 255) (bit_and (get_or words 4 0) 255)
    (bit_and (get_or words 8 0) 255) i
    ≡ product (i * 16 ^ n) f % 256
low_of_four n f words i are h =
    let at : (k : ℕ) → k < 16 → bit_and (get_or words k 0) 255 ≡ product (k * 16 ^ n) f % 256 =
    λ k hk. and_mask (get_or words k 0) 8 ∙ ap (λ w. w % 256) (are.entries k hk) in
    four_bits (low_nibble_additive n f) i (at 1 (omega arith))
    (at 2 (omega arith)) (at 4 (omega arith)) (at 8 (omega arith)) h

-- The high byte of each product, from the high bytes of the products of 1, 2, 4 and 8.
pub high_of_four : (n f : ℕ) (words : List ℕ) (i : ℕ) → IsNibbleList n f words → i < 16
    → at_bits (get_or words 1 0 / 256) (get_or words 2 0 / 256) (get_or words 4 0 / 256) (get_or words 8 0 / 256) i
    ≡ product (i * 16 ^ n) f / 256
high_of_four n f words i are h =
    let at : (k : ℕ) → k < 16 → get_or words k 0 / 256 ≡ product (k * 16 ^ n) f / 256 = λ k hk.
    ap (λ w. w / 256) (are.entries k hk) in
    four_bits (high_nibble_additive n f) i (at 1 (omega arith))
    (at 2 (omega arith)) (at 4 (omega arith)) (at 8 (omega arith)) h
