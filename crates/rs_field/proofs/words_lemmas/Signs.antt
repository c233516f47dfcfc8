-- The signs of a Walsh-Hadamard transform: the signs of its halves, and the proof that they are characters of XOR.
use Rattle.std.proofs.Common.{◌≡◌, ℕ, zero, suc, ◌+◌, ◌*◌, ◌/◌, ◌%◌, ◌^◌, ◌<◌, min, cond, eqb, bit_and, bit_xor}
use Rattle.std.proofs.Common.{count_ones, refl, sym, ap, ◌∙◌, arith, zero-add, mod-lt, ap₂}
use Rattle.std.proofs.lemmas.Nat.{and_comm, and_block, ones_cat, ones_le_self, xor_shr}
use Rattle.std.proofs.lemmas.Grind.{common_steps}
use Rattle.std.specs.Int.Bits.{and_step, xor_add_and, and_lt, and_le_l}
use Rattle.std.specs.Int.Count.{ones_step}
use Rattle.rs_field.specs.words.Walsh.{sign}

-- The number of bits that two words share.
abbrev shared : ℕ → ℕ → ℕ
shared w y = count_ones (bit_and w y)

-- The sign for an even or an odd number of shared bits.
abbrev pub sign_at : ℕ → ℕ
sign_at p = cond (eqb p 1) 65534 1

pub sign-is : (w y : ℕ) → sign w y ≡ sign_at (shared w y % 2)
unfolding sign
sign-is w y = refl

pub sign-comm : (w y : ℕ) → sign w y ≡ sign y w
sign-comm w y = sign-is w y ∙ ap (λ v. sign_at (count_ones v % 2)) (and_comm w y) ∙ sym (sign-is y w)

shared_top : (e a b w y : ℕ) → w < 2 ^ e → y < 2 ^ e → shared (a * 2 ^ e + w) (b * 2 ^ e + y) ≡ shared a b + shared w y
shared_top e a b w y hw hy =
    ap count_ones (and_block e a b w y hw hy) ∙ ones_cat e (bit_and a b) (bit_and w y) (and_lt e w y hw hy)

shared_none : (w y : ℕ) → w ≡ 0 → shared w y ≡ 0
shared_none w y none = let a = and_le_l w y in let b = ones_le_self (bit_and w y) in omega arith

shared-step : (w y : ℕ) → shared w y ≡ min (w % 2) (y % 2) + shared (w / 2) (y / 2)
shared-step w y =
    let s = and_step w y in
    grind (arith, common_steps, ones_step (bit_and w y))

shared_ones : shared 1 1 ≡ 1
shared_ones = shared-step 1 1 ∙ ap (λ v. 1 + v) (shared_none 0 0 refl)

pub sign-right : (e w y : ℕ) → w < 2 ^ e → y < 2 ^ e → sign w (2 ^ e + y) ≡ sign w y
sign-right e w y hw hy =
    grind (
      arith,
      common_steps,
      sign-is w
          (2 ^ e + y),
      sign-is w y,
      shared_top e 0 1 w y hw hy,
      shared_none 0 1 refl,
      zero-add (shared w y),
    )

pub sign-left : (e w y : ℕ) → w < 2 ^ e → y < 2 ^ e → sign (2 ^ e + w) y ≡ sign w y
sign-left e w y hw hy = sign-comm (2 ^ e + w) y ∙ sign-right e y w hy hw ∙ sign-comm y w

sign_turns : (p : ℕ) → sign_at ((1 + p) % 2) % 65535 ≡ 65534 * sign_at (p % 2) % 65535
sign_turns p = grind (arith, common_steps)

pub sign-both : (e w y : ℕ) → w < 2 ^ e → y < 2 ^ e → sign (2 ^ e + w) (2 ^ e + y) % 65535 ≡ 65534 * sign w y % 65535
sign-both e w y hw hy =
    grind (
      arith,
      common_steps,
      sign-is (2 ^ e + w) (2 ^ e + y),
      sign_turns
          (shared w y),
      sign-is w y,
      shared_top e 1 1 w y hw hy,
      shared_ones,
    )

pub sign-zero : (w : ℕ) → sign 0 w ≡ 1
sign-zero w =
    sign-is 0 w ∙ ap (λ v. sign_at (v % 2)) (shared_none 0 w refl)

-- ---- the sign at a XOR is the product of the signs

-- Modulo two, the bits shared with a XOR are the sum of the bits shared with each word.
shared-xor : (n w x y : ℕ) → w < 2 ^ n → shared w (bit_xor x y) % 2 ≡ (shared w x + shared w y) % 2
shared-xor zero w x y hw = grind (arith, common_steps, shared_none)
shared-xor (suc n) w x y hw =
    let a = shared-step w (bit_xor x y) ∙ ap (λ v. min (w % 2) (bit_xor x y % 2) + shared (w / 2) v) (xor_shr x y 1) in
    let b = shared-step w x in
    let c = shared-step w y in
    let low = xor_add_and x y in
    put (w % 2) (x % 2) (y % 2) (bit_xor x y % 2) (shared (w / 2) (bit_xor (x / 2) (y / 2))) (shared (w / 2) (x / 2))
    (shared (w / 2) (y / 2))
    (shared w (bit_xor x y)) (shared w x) (shared w y) (omega arith) (omega arith) (omega arith) (omega arith) a b c
    (shared-xor n (w / 2) (x / 2) (y / 2) (omega arith))
  where
    put : (i j k l s t u a b c : ℕ) → i < 2 → j < 2 → k < 2 → l ≡ (j + k) % 2 → a ≡ min i l + s → b ≡ min i j + t
        → c ≡ min i k + u → s % 2 ≡ (t + u) % 2 → a % 2 ≡ (b + c) % 2
    put zero j k l s t u a b c hi hj hk hl ha hb hc hs = omega arith
    put (suc zero) j k l s t u a b c hi hj hk hl ha hb hc hs = omega arith
    put (suc (suc i)) j k l s t u a b c hi hj hk hl ha hb hc hs = absurd (let no : ⊥ = omega arith in no)

sign_product : (p q : ℕ) → p < 2 → q < 2 → sign_at p * sign_at q % 65535 ≡ sign_at ((p + q) % 2) % 65535
sign_product p q h1 h2 = grind (arith, common_steps)

pub sign-xor : (w x y : ℕ) → w < 2 ^ 16 → sign w x * sign w y % 65535 ≡ sign w (bit_xor x y) % 65535
sign-xor w x y hw =
    let two : 0 < 2 = omega arith in
    let parity : (shared w x % 2 + shared w y % 2) % 2 ≡ shared w (bit_xor x y) % 2 = let s = shared-xor 16 w x y hw in
    omega arith in
    ap₂ (λ a b. a * b % 65535) (sign-is w x) (sign-is w y)
    ∙ sign_product (shared w x % 2) (shared w y % 2) (mod-lt (shared w x) two) (mod-lt (shared w y) two)
    ∙ ap (λ v. sign_at v % 65535) parity ∙ ap (λ v. v % 65535) (sym (sign-is w (bit_xor x y)))
