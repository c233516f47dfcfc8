-- A sum of n basis polynomials is a polynomial of n coefficients. A sum with the values of such a polynomial has no
-- terms from n on.
use Rattle.std.proofs.Common.{◌≡◌, ℕ, zero, suc, ◌+◌, ◌-◌, ◌^◌, ◌<◌, ◌≤◌, List, [], ◌∷◌, length, bit_xor, refl, sym, ap}
use Rattle.std.proofs.Common.{ap₂, ◌∙◌, arith, inl, inr, zero-add}
use Rattle.std.specs.Prelude.{slice_index}
use Rattle.std.specs.Int.Bits.{xor_comm, xor_zero_l, xor_zero_r}
use Rattle.std.proofs.lemmas.Bool.{cases_lt, cases_eq}
use Rattle.std.proofs.lemmas.List.{get_or_past}
use Rattle.std.proofs.lemmas.Grind.{common_steps}
use Rattle.rs_field.specs.words.Field.{product}
use Rattle.rs_field.specs.words.Polynomial.{AreWords, value}
use Rattle.rs_field.specs.words.Subspace.{subspace, basis}
use Rattle.rs_field.specs.words.Transform.{forward}
use Rattle.rs_field.proofs.words_lemmas.Product.{product_zero, zero_product, product_one}
use Rattle.rs_field.proofs.words_lemmas.Total.{product-comm}
use Rattle.rs_field.proofs.words_lemmas.Roots.{WordsOneByOne, value-nil, value-one}
use Rattle.rs_field.proofs.words_lemmas.Values.{same_from_values}
use Rattle.rs_field.proofs.words_lemmas.Subspace.{subspace_from_zero}
use Rattle.rs_field.proofs.words_lemmas.Factors.{add, scale, with_root, points, times, value_add, value_scale}
use Rattle.rs_field.proofs.words_lemmas.Factors.{value-times}
use Rattle.rs_field.proofs.words_lemmas.Factors.{length-add, length-scale, length-times, words_add, words_scale}
use Rattle.rs_field.proofs.words_lemmas.Factors.{words_times, all_words}
use Rattle.rs_field.proofs.words_lemmas.Combination.{sum_below-suc, sum_below-zero, sum_below-add, basis-zero}
use Rattle.rs_field.proofs.words_lemmas.Combination.{basis-half}
use Rattle.rs_field.proofs.words_lemmas.Combination.{forward_is, forward-zero}
use Rattle.rs_field.proofs.words_lemmas.Padding.{padded, length-padded, words_padded, value-padded}

-- ---- entries, zero past the end

entry-add : (p q : List ℕ) (i : ℕ) → slice_index (add p q) i ≡ bit_xor (slice_index p i) (slice_index q i)
unfolding add
entry-add [] q i = sym (xor_zero_l (slice_index q i))
entry-add (a ∷ p) [] i = sym (xor_zero_r (slice_index (a ∷ p) i))
entry-add (a ∷ p) (b ∷ q) zero = refl
entry-add (a ∷ p) (b ∷ q) (suc i) = entry-add p q i

entry-scale : (c : ℕ) (p : List ℕ) (i : ℕ) → slice_index (scale c p) i ≡ product c (slice_index p i)
unfolding scale
entry-scale c [] i = sym (product_zero c)
entry-scale c (a ∷ p) zero = refl
entry-scale c (a ∷ p) (suc i) = entry-scale c p i

-- Multiplying by x + a keeps the last coefficient.
entry-with_root : (a n : ℕ) (p : List ℕ) → length p ≡ suc n → slice_index (with_root a p) (suc n) ≡ slice_index p n
unfolding with_root
entry-with_root a n p size =
    grind (arith, common_steps, entry-add, entry-scale, get_or_past, product_zero, xor_zero_r)

entry-times : (a m n : ℕ) (p : List ℕ) → length p ≡ suc n → slice_index (times (points a m) p) (m + n) ≡ slice_index p n
unfolding times points
entry-times a zero n p size = ap (slice_index p) (zero-add n)
entry-times a (suc m) n p size =
    grind (arith, common_steps, length-times, with_root, entry-with_root, entry-times a m n p size)

-- ---- the basis polynomials

-- The basis polynomial q has q + 1 coefficients, and the last one is 1.
record IsBasis (q : ℕ) (p : List ℕ) : Type 0 where
  size : length p ≡ suc q
  words : WordsOneByOne p
  last : slice_index p q ≡ 1
  at : (x : ℕ) → value p x ≡ basis q x

basis_first : (q : ℕ) → q ≡ 0 → IsBasis q (1 ∷ [])
basis_first q e = grind (arith, common_steps, value-one, basis-zero)

basis_next : (e q : ℕ) {n : ℕ} {p : List ℕ} → e < 16 → n < 2 ^ e → q ≡ 2 ^ e + n → IsBasis n p
    → IsBasis q (times (points 0 (2 ^ e)) p)
basis_next e q {n} {p} he hn is h = record {
  size = length-times 0 (2 ^ e) p ∙ (let s : length p ≡ suc n = h.size in omega arith);
  words = words_times (points 0 (2 ^ e)) p h.words;
  last = ap (slice_index (times (points 0 (2 ^ e)) p)) is ∙ entry-times 0 (2 ^ e) n p h.size ∙ h.last;
  at = λ x. value-times 0 (2 ^ e) p h.words x ∙ ap₂ product (subspace_from_zero e x) (h.at x)
      ∙ product-comm (subspace e x) (basis n x)
      ∙ sym (ap (λ k. basis k x) is ∙ basis-half e n x he hn);
}

basis_polynomial : (e q : ℕ) → e ≤ 16 → q < 2 ^ e → (p : List ℕ) × IsBasis q p
basis_polynomial zero q he hq = (1 ∷ [], basis_first q (omega arith))
basis_polynomial (suc e) q he hq =
    elim (cases_lt q (2 ^ e)) [
      | inl low ↦ basis_polynomial e q (omega arith) low
      | inr high ↦
          let rest = basis_polynomial e (q - 2 ^ e) (omega arith) (omega arith) in (
            times (points 0 (2 ^ e)) rest.0,
            basis_next e q (omega arith) (omega arith) (omega arith) rest.1,
          )
    ]

-- ---- sums of n terms

forward-more : (n : ℕ) (f : ℕ → ℕ) (x : ℕ)
    → forward (suc n) 0 f x ≡ bit_xor (forward n 0 f x) (product (f n) (basis n x))
forward-more n f x = grind (arith, common_steps, forward_is, sum_below-suc, zero-add)

-- Terms that are zero can be left out of a sum.
pub forward-fewer : (n t : ℕ) (f : ℕ → ℕ) (x : ℕ) → ((i : ℕ) → i < t → f (n + i) ≡ 0)
    → forward (n + t) 0 f x ≡ forward n 0 f x
forward-fewer n t f x none =
    grind (arith, common_steps, forward_is, sum_below-add, sum_below-zero, zero_product, xor_zero_r)

-- A polynomial of n coefficients for a sum of n terms.
pub record IsSum (n : ℕ) (f : ℕ → ℕ) (p : List ℕ) : Type 0 where
  pub size : length p ≡ n
  pub words : WordsOneByOne p
  pub at : (x : ℕ) → value p x ≡ forward n 0 f x

sum_none : (f : ℕ → ℕ) → IsSum 0 f []
sum_none f = record {
  size = refl;
  words = tt;
  at = λ x.
      value-nil x ∙ sym (forward-zero 0 0 f x (λ q h. let no : ⊥ = omega arith in absurd no));
}

sum_more : {n : ℕ} {f : ℕ → ℕ} {b p : List ℕ} → IsBasis n b → IsSum n f p → IsSum (suc n) f (add (scale (f n) b) p)
sum_more hb hp =
    grind (
      arith,
      common_steps,
      length-scale,
      length-add,
      words_add,
      words_scale,
      value_add,
      value_scale,
      xor_comm,
      forward-more,
    )

pub sum_polynomial : (n : ℕ) (f : ℕ → ℕ) → n ≤ 65536 → (p : List ℕ) × IsSum n f p
sum_polynomial zero f hn = ([], sum_none f)
sum_polynomial (suc n) f hn =
    let b = basis_polynomial 16 n (omega arith) (omega arith) in
    let p = sum_polynomial n f (omega arith) in
    (add (scale (f n) b.0) p.0, sum_more b.1 p.1)

-- A sum of n basis polynomials is a polynomial of n coefficients.
pub polynomial_of_terms : (n : ℕ) (f : ℕ → ℕ) → n ≤ 65536 → (p : List ℕ) × (length p ≡ n) × AreWords p
    × ((x : ℕ) → value p x ≡ forward n 0 f x)
polynomial_of_terms n f hn = let p = sum_polynomial n f hn in (p.0, p.1.size, all_words p.0 p.1.words, p.1.at)

-- The last coefficient of a sum is its last term.
last_term : {n : ℕ} {f : ℕ → ℕ} {b p : List ℕ} → f n < 2 ^ 16 → IsBasis n b → IsSum n f p
    → slice_index (add (scale (f n) b) p) n ≡ f n
last_term word hb hp = grind (arith, common_steps, entry-add, entry-scale, product_one, get_or_past, xor_zero_r)

entry-padded : (n : ℕ) (p : List ℕ) (i : ℕ) → length p ≤ i → slice_index (padded n p) i ≡ 0
unfolding padded
entry-padded zero [] i h = refl
entry-padded (suc n) [] zero h = refl
entry-padded (suc n) [] (suc i) h = entry-padded n [] i (omega arith)
entry-padded n (c ∷ cs) zero h = absurd (let no : ⊥ = omega arith in no)
entry-padded n (c ∷ cs) (suc i) h = entry-padded n cs i (let less : length cs ≤ i = omega arith in less)

-- If a sum of n + 1 terms has the values of a polynomial of n coefficients, its last term is zero.
no_last_term : (n : ℕ) (f : ℕ → ℕ) (h : List ℕ) → n < 65536 → f n < 2 ^ 16 → length h ≡ n → WordsOneByOne h
    → ((x : ℕ) → x < suc n → forward (suc n) 0 f x ≡ value h x) → f n ≡ 0
no_last_term n f h hn word size words at =
    let b = basis_polynomial 16 n (omega arith) hn in
    let p = sum_polynomial n f (omega arith) in
    let s : IsSum (suc n) f (add (scale (f n) b.0) p.0) = sum_more b.1 p.1 in
    let same : add (scale (f n) b.0) p.0 ≡ padded 1 h =
    same_from_values (suc n) (add (scale (f n) b.0) p.0) (padded 1 h) s.size (length-padded 1 h ∙ omega arith) s.words
    (words_padded 1 h words) (λ i. i) (λ i hi. omega arith) (λ i j hi hj e. e)
    (λ i hi. s.at i ∙ at i hi ∙ sym (value-padded 1 h i)) in
    sym (last_term word b.1 p.1) ∙ ap (λ (q : List ℕ). slice_index q n) same ∙ entry-padded 1 h n (omega arith)

-- If a sum has the values of a polynomial of n coefficients, its terms from n on are zero.
pub no_terms_past : (n t : ℕ) (f : ℕ → ℕ) (h : List ℕ) → n + t ≤ 65536 → ((i : ℕ) → i < n + t → f i < 2 ^ 16)
    → length h ≡ n → WordsOneByOne h
    → ((x : ℕ) → x < n + t → forward (n + t) 0 f x ≡ value h x) → (i : ℕ) → n ≤ i → i < n + t → f i ≡ 0
no_terms_past n zero f h hn word size words at i above below = absurd (let no : ⊥ = omega arith in no)
no_terms_past n (suc t) f h hn word size words at i above below =
    let last : f (n + t) ≡ 0 =
    no_last_term (n + t) f (padded t h) (omega arith) (word (n + t) (omega arith)) (length-padded t h ∙ omega arith)
    (words_padded t h words)
    (λ x hx. ap (λ k. forward k 0 f x) (sym (omega arith)) ∙ at x (omega arith) ∙ sym (value-padded t h x)) in
    elim (cases_eq i (n + t)) [
      | inl e ↦ ap f e ∙ last
      | inr apart ↦
          no_terms_past n t f h (omega arith) (λ k hk. word k (omega arith)) size words
          (λ x hx. sym (forward-fewer (n + t) 1 f x (λ j hj. ap f (omega arith) ∙ last))
          ∙ ap (λ k. forward k 0 f x) (sym (omega arith)) ∙ at x (omega arith))
          i above (omega arith)
    ]
