-- The values at n points determine a polynomial of n coefficients.
use Rattle.std.proofs.Common.{◌≡◌, ℕ, ◌^◌, ◌<◌, List, [], ◌∷◌, length, bit_xor, refl, sym, ap, ap₂, ◌∙◌, arith}
use Rattle.std.specs.Int.Bits.{xor_self}
use Rattle.rs_field.specs.words.Polynomial.{value}
use Rattle.rs_field.proofs.words_lemmas.Roots.{WordsOneByOne, ZerosOneByOne, zero_from_roots, same_from_xor}
use Rattle.rs_field.proofs.words_lemmas.Factors.{add, value_add, length-add, words_add}

same_from_add : (p q : List ℕ) → length p ≡ length q → ZerosOneByOne (add p q) → p ≡ q
unfolding add
same_from_add [] [] e z = refl
same_from_add [] (b ∷ q) e z = absurd (let no : ⊥ = omega arith in no)
same_from_add (a ∷ p) [] e z = absurd (let no : ⊥ = omega arith in no)
same_from_add (a ∷ p) (b ∷ q) e z =
    ap₂ (λ (x : ℕ) (xs : List ℕ). x ∷ xs) (same_from_xor a b z.0) (same_from_add p q (omega arith) z.1)

-- Two polynomials of n coefficients with the same values at n points are equal.
pub same_from_values : (n : ℕ) (p q : List ℕ) → length p ≡ n → length q ≡ n → WordsOneByOne p → WordsOneByOne q
    → (f : ℕ → ℕ)
    → ((i : ℕ) → i < n → f i < 2 ^ 16) → ((i j : ℕ) → i < n → j < n → f i ≡ f j → i ≡ j)
    → ((i : ℕ) → i < n → value p (f i) ≡ value q (f i)) → p ≡ q
same_from_values n p q size_p size_q words_p words_q f words once same =
    let size : length p ≡ length q = size_p ∙ sym size_q in
    cc (same_from_add p q size
    (zero_from_roots n (add p q) (length-add p q (omega arith) ∙ size_p)
    (words_add p q words_p words_q) f words once
    (λ i hi. value_add p q (f i) ∙ ap (λ v. bit_xor v (value q (f i))) (same i hi) ∙ xor_self (value q (f i)))))
