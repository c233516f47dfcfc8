-- A polynomial of n coefficients that has n given values at consecutive points.
use Rattle.std.proofs.Common.{◌≡◌, ℕ, zero, suc, ◌+◌, ◌^◌, ◌<◌, ◌≤◌, ◌≢◌, List, [], ◌∷◌, length, bit_xor, refl, ap, ◌∙◌}
use Rattle.std.proofs.Common.{arith}
use Rattle.std.specs.Int.Bits.{xor_zero_l, xor_lt}
use Rattle.std.proofs.lemmas.Bool.{cases_eq}
use Rattle.std.proofs.lemmas.Grind.{common_steps}
use Rattle.rs_field.specs.words.Field.{product}
use Rattle.rs_field.specs.words.Polynomial.{value}
use Rattle.rs_field.specs.words.Subspace.{product_below}
use Rattle.rs_field.proofs.words_lemmas.Product.{product_zero, product_one}
use Rattle.rs_field.proofs.words_lemmas.Total.{product-comm, product-assoc}
use Rattle.rs_field.proofs.words_lemmas.Inverse.{inverse, product_inverse, product_pos}
use Rattle.rs_field.proofs.words_lemmas.Halves.{xor_undo}
use Rattle.rs_field.proofs.words_lemmas.LocatorLemmas.{difference_pos}
use Rattle.rs_field.proofs.words_lemmas.Roots.{WordsOneByOne, value_lt, value-one}
use Rattle.rs_field.proofs.words_lemmas.Subspace.{product_below_lt}
use Rattle.rs_field.proofs.words_lemmas.Factors.{add, scale, points, times, value_add, value_scale, value-times}
use Rattle.rs_field.proofs.words_lemmas.Factors.{length-add}
use Rattle.rs_field.proofs.words_lemmas.Factors.{length-scale, length-times, words_add, words_scale}
use Rattle.rs_field.proofs.words_lemmas.ZerosPast.{root_there}

-- The product of the differences of a point from other points is not zero.
differences_pos : (a n x : ℕ) → x < 2 ^ 16 → a + n ≤ 2 ^ 16 → ((i : ℕ) → i < n → a + i ≢ x)
    → 0 < product_below n (λ i. bit_xor x (a + i))
unfolding product_below
differences_pos a zero x hx hn apart = omega arith
differences_pos a (suc n) x hx hn apart =
    product_pos (product_below n (λ i. bit_xor x (a + i))) (bit_xor x (a + n))
    (differences_pos a n x hx (omega arith) (λ i h. apart i (omega arith)))
    (difference_pos x (a + n) (apart n (omega arith))) (product_below_lt n (λ i. bit_xor x (a + i)))
    (xor_lt 16 x (a + n) hx (omega arith))

-- The value that is missing at the next point, divided by the product of the differences.
missing : ℕ → ℕ → List ℕ → ℕ → ℕ
missing a n p v = product (bit_xor v (value p (a + n))) (inverse (product_below n (λ i. bit_xor (a + n) (a + i))))

one_more : ℕ → ℕ → List ℕ → ℕ → List ℕ
one_more a n p v = add (scale (missing a n p v) (times (points a n) (1 ∷ []))) p

pub record Has (a n : ℕ) (v : ℕ → ℕ) (p : List ℕ) : Type 0 where
  pub degree : length p ≡ n
  pub coefficients : WordsOneByOne p
  pub at : (i : ℕ) → i < n → value p (a + i) ≡ v i

value-one_more : (a n : ℕ) (p : List ℕ) (v x : ℕ)
    → value (one_more a n p v) x ≡ bit_xor (product (missing a n p v) (value (times (points a n) (1 ∷ [])) x))
    (value p x)
unfolding one_more
value-one_more a n p v x = value_add (scale (missing a n p v) (times (points a n) (1 ∷ []))) p x
    ∙ ap (λ w. bit_xor w (value p x)) (value_scale (missing a n p v) (times (points a n) (1 ∷ [])) x)

-- Adding the next term does not change the values at the earlier points.
stays : (a n : ℕ) (p : List ℕ) (v i : ℕ) → i < n → value (one_more a n p v) (a + i) ≡ value p (a + i)
stays a n p v i hi = grind (arith, common_steps, value-one_more, root_there, product_zero, xor_zero_l)

-- Adding the next term gives the wanted value at the next point.
comes : (a n : ℕ) (p : List ℕ) (v : ℕ) → a + n < 2 ^ 16 → v < 2 ^ 16 → WordsOneByOne p
    → value (one_more a n p v) (a + n) ≡ v
unfolding missing
comes a n p v hn hv words =
    let d : ℕ = product_below n (λ i. bit_xor (a + n) (a + i)) in
    let w : ℕ = bit_xor v (value p (a + n)) in
    let pos : 0 < product_below n (λ i. bit_xor (a + n) (a + i)) =
    differences_pos a n (a + n) hn (omega arith) (λ i h e. omega arith) in
    let word : bit_xor v (value p (a + n)) < 2 ^ 16 = xor_lt 16 v (value p (a + n)) hv (value_lt p (a + n) words) in
    value-one_more a n p v (a + n)
    ∙ ap (λ u. bit_xor u (value p (a + n)))
    (ap (product (missing a n p v))
    (value-times a n (1 ∷ []) (omega arith, tt) (a + n) ∙ ap (product d) (value-one 1 (a + n))
    ∙ product_one d (product_below_lt n (λ i. bit_xor (a + n) (a + i))))
    ∙ product-assoc w (inverse d) d
    ∙ ap (product w) (product-comm (inverse d) d
    ∙ product_inverse d pos (product_below_lt n (λ i. bit_xor (a + n) (a + i))))
    ∙ product_one w word)
    ∙ xor_undo v (value p (a + n))

has_more : {a n : ℕ} {v : ℕ → ℕ} {p : List ℕ} → a + n < 2 ^ 16 → v n < 2 ^ 16 → Has a n v p
    → Has a (suc n) v (one_more a n p (v n))
unfolding one_more
has_more hn hv h =
    grind (
      arith,
      common_steps,
      length-scale,
      length-times,
      length-add,
      words_add,
      words_scale,
      cases_eq,
      one_more,
      comes,
      stays,
    )

-- There is a polynomial with n given values, in Newton's form.
pub interpolated : (a n : ℕ) (v : ℕ → ℕ) → a + n ≤ 2 ^ 16 → ((i : ℕ) → i < n → v i < 2 ^ 16) → (p : List ℕ)
    × Has a n v p
interpolated a zero v hn words =
    ([], record { degree = refl; coefficients = tt; at = λ i h. absurd (let no : ⊥ = omega arith in no) })
interpolated a (suc n) v hn words =
    let p = interpolated a n v (omega arith) (λ i h. words i (omega arith)) in
    (one_more a n p.0 (v n), has_more (omega arith) (words n (omega arith)) p.1)
