-- A search among the numbers below n, and the number at which the search ends.
use Rattle.std.proofs.Common.{◌≡◌, ℕ, zero, suc, ◌<◌, ◌≤◌, Bool, true, false, cond, ap, arith}
use Rattle.rs_field.specs.words.Search.{first_below}
use Rattle.std.proofs.lemmas.Grind.{common_steps}

-- The search ends at the first number that passes the test.
pub first_below-is : (n : ℕ) (p : ℕ → Bool) (i : ℕ) → i < n → p i ≡ true → ((j : ℕ) → j < i → p j ≡ false)
    → first_below n p ≡ i
unfolding first_below
first_below-is zero p i h passes before = absurd (let no : ⊥ = omega arith in no)
first_below-is (suc n) p zero h passes before = ap (λ b. cond b 0 (suc (first_below n (λ k. p (suc k))))) passes
first_below-is (suc n) p (suc i) h passes before =
    cc (
      before 0 (omega arith),
      first_below-is n (λ k. p (suc k)) i (omega arith) passes
          (λ j hj. before (suc j) (omega arith)),
    )

-- If the search ends before its limit, it ends at a number that passes the test.
pub first_below-passes : (n : ℕ) (p : ℕ → Bool) → first_below n p < n → p (first_below n p) ≡ true
unfolding first_below
first_below-passes zero p h = absurd (let no : ⊥ = omega arith in no)
first_below-passes (suc n) p h = grind (arith, common_steps, first_below-passes n (λ k. p (suc k)))

-- If a number passes the test, the search ends at this number or before.
pub first_below_most : (n : ℕ) (p : ℕ → Bool) (i : ℕ) → i < n → p i ≡ true → first_below n p ≤ i
unfolding first_below
first_below_most zero p i h e = absurd (let no : ⊥ = omega arith in no)
first_below_most (suc n) p zero h e = grind (arith, common_steps)
first_below_most (suc n) p (suc i) h e =
    grind (arith, common_steps, first_below_most n (λ k. p (suc k)) i (omega arith) e)
