use Rattle.std.proofs.Common.{◌≡◌, ◌*◌, ◌^◌, ◌+◌, ◌-◌, ◌/◌, ◌%◌, ℕ, zero, suc, sym, ap, ◌∙◌, arith, pow-suc, mul_assoc}
use Rattle.rs_field.proofs.words.tables.skew_word.Goals as goal

twice : (k x : ℕ) → (2 * k + 1) * 2 ^ suc x ≡ (2 * k + 1) * 2 ^ x * 2
twice k x = ap (λ p. (2 * k + 1) * p) (pow-suc 2 x) ∙ sym (mul_assoc (2 * k + 1) (2 ^ x) 2)

halve : (odd k e : ℕ) → odd % 2 ≡ 0 → odd ≡ (2 * k + 1) * 2 ^ e → (x : ℕ) × (odd / 2 ≡ (2 * k + 1) * 2 ^ x)
halve odd k zero even is = absurd (omega arith)
halve odd k (suc x) even is = (x, omega (arith, twice k x))

at_end : (odd k e : ℕ) → (odd % 2 ≡ 0 → ⊥) → odd ≡ (2 * k + 1) * 2 ^ e → odd - 1 ≡ 2 * k
at_end odd k zero test is = omega arith
at_end odd k (suc x) test is = absurd (omega (arith, twice k x))

pub loop-odd-preserved : goal.loop-odd-preserved
loop-odd-preserved c = record {
  positive = omega (arith, c.loop-odd.invariant.positive);
  factor = λ d u is. smaller u (c.loop-odd.invariant.factor d u is);
}
  where
    smaller : (u : ℕ) → (e : ℕ) × (c.loop-odd.odd ≡ (2 * u + 1) * 2 ^ e) → (x : ℕ)
        × (c.loop-odd.odd / 2 ≡ (2 * u + 1) * 2 ^ x)
    smaller u (e, is) = halve c.loop-odd.odd u e c.loop-odd-test.true is

pub returns : goal.returns
returns c = λ d u is. last u (c.loop-odd.invariant.factor d u is)
  where
    last : (u : ℕ) → (e : ℕ) × (c.loop-odd.odd ≡ (2 * u + 1) * 2 ^ e) → c.loop-odd.odd - 1 ≡ 2 * u
    last u (e, is) = at_end c.loop-odd.odd u e c.loop-odd-test.false is
