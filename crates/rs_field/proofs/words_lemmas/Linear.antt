-- Maps that keep XOR. Two such maps are equal if they agree on powers of two.
use Rattle.std.proofs.Common.{◌≡◌, ℕ, zero, suc, ◌*◌, ◌/◌, ◌%◌, ◌^◌, ◌<◌, ◌≤◌, List, [], ◌∷◌, Bool, true, ◌&&◌, bit_xor}
use Rattle.std.proofs.Common.{refl, sym, ap, ap₂, ◌∙◌, subst, inl, inr, arith, zero-mul, one-mul, add-zero, mod-lt}
use Rattle.std.proofs.Common.{lt_of_lt_of_le, ◌⊎◌, one-add, pow_mono, div-mul-le_self, lt_of_le_of_lt}
use Rattle.std.specs.Int.Bits.{xor_comm, xor_assoc, xor_self, xor_zero_r, xor_block, xor_shr, xor_mod, xor_shifted}
use Rattle.std.proofs.lemmas.Nat.{pow_pos, shr_split, shr_below}
use Rattle.std.proofs.lemmas.Bool.{cases_eq, and_parts}
use Rattle.std.proofs.lemmas.Grind.{common_steps}
use Rattle.rs_field.specs.words.Field.{combine}

pub xor_swap : (a b c d : ℕ) → bit_xor (bit_xor a b) (bit_xor c d) ≡ bit_xor (bit_xor a c) (bit_xor b d)
xor_swap a b c d = grind (arith, common_steps, xor_assoc, xor_comm)

pub xor_times_pow : (k a b : ℕ) → bit_xor a b * 2 ^ k ≡ bit_xor (a * 2 ^ k) (b * 2 ^ k)
xor_times_pow k a b =
    cc (
      add-zero (bit_xor a b * 2 ^ k),
      xor_block k a b 0 0 (pow_pos k) (pow_pos k),
      add-zero (a * 2 ^ k),
      add-zero
          (b * 2 ^ k),
    )

digit_xor : (a b : ℕ) → a < 2 → b < 2 → (c : ℕ) → bit_xor a b * c ≡ bit_xor (a * c) (b * c)
digit_xor zero b ha hb c = ap (λ x. bit_xor x (b * c)) (sym (zero-mul c))
digit_xor (suc zero) zero ha hb c = sym (ap₂ bit_xor refl (zero-mul c) ∙ xor_zero_r (1 * c))
digit_xor (suc zero) (suc zero) ha hb c = zero-mul c ∙ sym (xor_self (1 * c))
digit_xor (suc zero) (suc (suc b)) ha hb c = absurd (omega arith)
digit_xor (suc (suc a)) b ha hb c = absurd (omega arith)

-- The lowest bit of a XOR times a number is the XOR of the lowest bits times the number.
pub lowest_xor : (a b c : ℕ) → bit_xor a b % 2 * c ≡ bit_xor (a % 2 * c) (b % 2 * c)
lowest_xor a b c =
    ap (λ x. x * c) (xor_mod a b 1) ∙ digit_xor (a % 2) (b % 2) (mod-lt a (omega arith)) (mod-lt b (omega arith)) c

pub combine_xor : (bs : List ℕ) (a b : ℕ) → combine bs (bit_xor a b) ≡ bit_xor (combine bs a) (combine bs b)
unfolding combine
combine_xor [] a b = refl
combine_xor (c ∷ bs) a b =
    cc (
      lowest_xor a b c,
      xor_shr a b 1,
      combine_xor bs (a / 2) (b / 2),
      xor_swap (a % 2 * c) (b % 2 * c)
          (combine bs (a / 2)) (combine bs (b / 2)),
    )

-- A map that keeps the XOR of numbers of w bits.
pub record IsAdditive (w : ℕ) (f : ℕ → ℕ) : Type 0 where
  pub xor : (a b : ℕ) → a < 2 ^ w → b < 2 ^ w → f (bit_xor a b) ≡ bit_xor (f a) (f b)

pub additive_zero : {w : ℕ} {f : ℕ → ℕ} → IsAdditive w f → f 0 ≡ 0
additive_zero {w} {f} h = h.xor 0 0 (pow_pos w) (pow_pos w) ∙ xor_self (f 0)

pub split_top : (n x : ℕ) → x ≡ bit_xor (x / 2 ^ n * 2 ^ n) (x % 2 ^ n)
split_top n x = sym (shr_split x n) ∙ sym (xor_shifted (x / 2 ^ n) n (x % 2 ^ n) (mod-lt x (pow_pos n)))

digit_times : (d n : ℕ) → d < 2 → (d * 2 ^ n ≡ 0) ⊎ (d * 2 ^ n ≡ 2 ^ n)
digit_times zero n h = inl (zero-mul (2 ^ n))
digit_times (suc zero) n h = inr (one-mul (2 ^ n))
digit_times (suc (suc d)) n h = absurd (omega arith)

-- Two maps that keep XOR and agree on the powers of two below 2 ^ n agree on all numbers below 2 ^ n.
pub agree_below : {w : ℕ} {f g : ℕ → ℕ} → IsAdditive w f → IsAdditive w g
    → ((i : ℕ) → i < w → f (2 ^ i) ≡ g (2 ^ i))
    → (n : ℕ) → n ≤ w → (x : ℕ) → x < 2 ^ n → f x ≡ g x
agree_below hf hg same zero hn x hx = grind (arith, common_steps, additive_zero)
agree_below {w} {f} {g} hf hg same (suc n) hn x hx =
    let below : n ≤ w = omega arith in
    let wide : 2 ^ suc n ≤ 2 ^ w = pow_mono hn in
    let top : f (x / 2 ^ n * 2 ^ n) ≡ g (x / 2 ^ n * 2 ^ n) =
    elim (digit_times (x / 2 ^ n) n
    (shr_below x 1 n (subst (λ (p : ℕ). x < p) (ap (λ (k : ℕ). 2 ^ k) (sym (one-add n))) hx))) [
      | inl e ↦ ap f e ∙ additive_zero hf ∙ sym (additive_zero hg) ∙ ap g (sym e)
      | inr e ↦ ap f e ∙ same n hn ∙ ap g (sym e)
    ] in
    let high_lt : x / 2 ^ n * 2 ^ n < 2 ^ w = lt_of_lt_of_le (lt_of_le_of_lt (div-mul-le_self x (2 ^ n)) hx) wide in
    let low_lt : x % 2 ^ n < 2 ^ w = omega arith in
    cc (
      split_top n x,
      hf.xor _ _ high_lt low_lt,
      hg.xor _ _ high_lt low_lt,
      agree_below hf hg same n below (x % 2 ^ n) (mod-lt x (pow_pos n)),
    )

-- A test of every number below n, for facts that are proved by computation.
unfoldable pub passes_below : ℕ → (ℕ → Bool) → Bool
passes_below zero p = true
passes_below (suc n) p = p n && passes_below n p

pub from_passes_below : (n : ℕ) (p : ℕ → Bool) → passes_below n p ≡ true → (i : ℕ) → i < n → p i ≡ true
unfolding passes_below
from_passes_below zero p h i hi = absurd (omega arith)
from_passes_below (suc n) p h i hi =
    elim (cases_eq i n) [
      | inl e ↦ ap p e ∙ (and_parts _ _ h).0
      | inr apart ↦ let below : i < n = omega arith in from_passes_below n p (and_parts _ _ h).1 i below
    ]
