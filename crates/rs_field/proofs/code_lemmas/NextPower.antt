-- The power of two to which a count is rounded up.
use Rattle.std.proofs.Common.{rules, ◌≡◌, ℕ, zero, suc, ◌/◌, ◌^◌, ◌<◌, ◌≤◌, max, refl, sym, ap, ◌∙◌, subst, arith, inl}
use Rattle.std.proofs.Common.{inr, pow_mono}
use Rattle.std.specs.Prelude.{nat_le}
use Rattle.std.proofs.lemmas.Bool.{cases_lt, le-leb, lt-leb, leb-true}
use Rattle.std.proofs.lemmas.Nat.{pow_pos}
use Rattle.rs_field.specs.words.Search.{first_below}
use Rattle.rs_field.specs.code.Counts.{next_power, exponent_of}
use Rattle.rs_field.proofs.words_lemmas.Search.{first_below-is, first_below-passes, first_below_most}
use Rattle.rs_field.proofs.words_lemmas.Halves.{exponent_below}

-- For n up to 65536, the exponent of its power is at most 16, and n is at most the power.
pub exponent-small : (n : ℕ) → n ≤ 65536 → (exponent_of n ≤ 16) × (n ≤ 2 ^ exponent_of n)
unfolding exponent_of
exponent-small n small =
    let d : ℕ = first_below 64 (λ e. nat_le n (2 ^ e)) in
    let most : first_below 64 (λ e. nat_le n (2 ^ e)) ≤ 16 =
    first_below_most 64 (λ e. nat_le n (2 ^ e)) 16 (omega arith) (le-leb n 65536 small) in
    (most, leb-true n (2 ^ d) (first_below-passes 64 (λ e. nat_le n (2 ^ e)) (omega arith)))

pub next_power-exponent : (n : ℕ) → next_power n ≡ 2 ^ exponent_of n
unfolding next_power
next_power-exponent n = refl

-- For n up to 65536, `next_power n` is a power of two of at least n.
pub next_power-small : (n : ℕ) → n ≤ 65536 → (d : ℕ) × (d ≤ 16) × (next_power n ≡ 2 ^ d) × (n ≤ next_power n)
unfolding next_power
next_power-small n small = let known = exponent-small n small in (exponent_of n, known.0, refl, known.1)

-- No smaller power of two is at least n.
pub next_power-least : (n d : ℕ) → d < 64 → n ≤ 2 ^ d → next_power n ≤ 2 ^ d
unfolding next_power exponent_of
next_power-least n d hd h = search (rules, pow_mono, first_below_most, le-leb)

-- A power of two that is at least n, and whose half is below n, is `next_power n`.
pub next_power-is : (n p x : ℕ) → p ≡ 2 ^ x → x < 64 → n ≤ p → p / 2 < max 1 n → p ≡ next_power n
unfolding next_power exponent_of
next_power-is n p x power few above half =
    power ∙ ap (λ d. 2 ^ d)
    (sym (first_below-is 64 (λ d. nat_le n (2 ^ d)) x few (le-leb n (2 ^ x) (omega arith))
    (λ j less. lt-leb n (2 ^ j) (below j less))))
  where
    halved : (j y : ℕ) → j < suc y → 2 ^ suc y / 2 < max 1 n → 2 ^ j < n
    halved j y less h =
        let le : 2 ^ j ≤ 2 ^ y = pow_mono (omega arith) in
        let positive : 0 < 2 ^ j = pow_pos j in
        omega arith

    at : (j z : ℕ) → z ≡ x → j < z → 2 ^ z / 2 < max 1 n → 2 ^ j < n
    at j zero e less h = absurd (let no : ⊥ = omega arith in no)
    at j (suc y) e less h = halved j y less h

    below : (j : ℕ) → j < x → 2 ^ j < n
    below j less = at j x refl less (subst (λ (q : ℕ). q / 2 < max 1 n) power half)

-- The power of a number above 65536 is above 65536.
pub next_power-large : (n : ℕ) → 65536 < n → 65536 < next_power n
unfolding next_power exponent_of
next_power-large n large =
    elim (cases_lt 65536 (2 ^ first_below 64 (λ e. nat_le n (2 ^ e)))) [
      | inl above ↦ above
      | inr small ↦
          let few : first_below 64 (λ e. nat_le n (2 ^ e)) < 17 =
          exponent_below (first_below 64 (λ e. nat_le n (2 ^ e))) 17 (omega arith) in
          let no : n ≤ 2 ^ first_below 64 (λ e. nat_le n (2 ^ e)) =
          leb-true n (2 ^ first_below 64 (λ e. nat_le n (2 ^ e)))
          (first_below-passes 64 (λ e. nat_le n (2 ^ e)) (omega arith)) in
          absurd (omega arith)
    ]

-- A power of two up to 65536 is at least its number.
pub next_power-above : (n : ℕ) → next_power n ≤ 65536 → n ≤ next_power n
next_power-above n h =
    elim (cases_lt 65536 n) [
      | inl large ↦ let more : 65536 < next_power n = next_power-large n large in absurd (omega arith)
      | inr small ↦ (next_power-small n small).3
    ]

-- ---- small powers of two are their own power

pub power_is_own : (n d : ℕ) → n ≡ 2 ^ d → n ≤ 65536 → next_power n ≡ n
power_is_own n d is small = sym (next_power-is n n d is (exponent_below d 64 (omega arith)) (omega arith) (omega arith))

pub own_is_power : (n : ℕ) → next_power n ≡ n → n ≤ 65536 → (d : ℕ) × (n ≡ 2 ^ d)
own_is_power n own small = let p = next_power-small n small in (p.0, sym own ∙ p.2)
