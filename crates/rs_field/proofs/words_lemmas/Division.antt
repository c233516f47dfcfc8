-- A polynomial with roots at several words is the product of their factors with another polynomial.
use Rattle.std.proofs.Common.{◌≡◌, ℕ, ◌+◌, ◌^◌, ◌<◌, ◌≤◌, List, [], ◌∷◌, length, refl, sym, ap, ◌∙◌, arith, bit_xor}
use Rattle.rs_field.specs.words.Field.{product}
use Rattle.rs_field.specs.words.Polynomial.{value}
use Rattle.rs_field.proofs.words_lemmas.Roots.{WordsOneByOne, steps, length-steps, words_steps, factor-root, next_root}
use Rattle.rs_field.proofs.words_lemmas.Factors.{times, value_with_root}
use Rattle.std.proofs.lemmas.Grind.{common_steps}

-- Distinct numbers below n, each below the number before.
abbrev pub AreFalling : ℕ → List ℕ → Type 0
AreFalling n [] = Unit {0}
AreFalling n (a ∷ r) = (a < n) × AreFalling a r

-- The polynomial is zero at each of the words.
abbrev pub AreRoots : List ℕ → List ℕ → Type 0
AreRoots p [] = Unit {0}
AreRoots p (a ∷ r) = (value p a ≡ 0) × AreRoots p r

-- Dividing by one root keeps all other roots.
other_roots : (a n c : ℕ) (cs r : List ℕ) → a < 2 ^ 16 → n ≤ a → AreFalling n r → WordsOneByOne cs
    → value (c ∷ cs) a ≡ 0 → AreRoots (c ∷ cs) r → AreRoots (steps a cs) r
other_roots a n c cs [] ha hn falling words root roots = tt
other_roots a n c cs (b ∷ r) ha hn falling words root roots =
    grind (arith, common_steps, next_root, other_roots a b c cs r ha (omega arith) falling.1 words root roots.1)

-- A polynomial with distinct roots is the product of the factors of the roots and a polynomial with that many fewer
-- coefficients.
pub divided_by : (n : ℕ) (r p : List ℕ) (b : ℕ) → n ≤ 2 ^ 16 → AreFalling n r → length p ≡ length r + b
    → WordsOneByOne p → AreRoots p r
    → (q : List ℕ) × (length q ≡ b) × WordsOneByOne q × ((x : ℕ) → value p x ≡ value (times r q) x)
unfolding times
divided_by n [] p b hn falling size words roots = let same : length p ≡ b = omega arith in (p, same, words, λ x. refl)
divided_by n (a ∷ r) [] b hn falling size words roots = absurd (let no : ⊥ = omega arith in no)
divided_by n (a ∷ r) (c ∷ cs) b hn falling size words roots =
    let rest = divided_by a r (steps a cs) b (omega arith) falling.1 (length-steps a cs ∙ omega arith)
    (words_steps a cs words.1)
    (other_roots a a c cs r (omega arith) (omega arith) falling.1 words.1 roots.0 roots.1) in (
      rest.0,
      rest.1,
      rest.2,
      λ x. factor-root a x c cs roots.0 ∙ ap (product (bit_xor x a)) (rest.3 x)
          ∙ sym (value_with_root a (times r rest.0) x),
    )
