-- The derivative step by halves, for one symbol of the rows. The polynomial has its coefficients in the subspace basis.
use Rattle.std.proofs.Common.{rules, ◌≡◌, ℕ, suc, ◌+◌, ◌/◌, ◌^◌, ◌<◌, ◌≤◌, ◌⊎◌, List, [], ◌∷◌, length, bit_xor, refl}
use Rattle.std.proofs.Common.{sym, ap, ap₂, ◌∙◌, subst, arith, inl, inr, add_assoc, zero-add, pow-suc, pow_mono}
use Rattle.std.specs.Int.Bits.{xor_comm, xor_zero_r}
use Rattle.rs_field.specs.words.Field.{product}
use Rattle.rs_field.specs.words.Polynomial.{value, derivative_value}
use Rattle.rs_field.specs.words.Subspace.{subspace}
use Rattle.rs_field.specs.words.Derivative.{IsInBasis, IsDerivativeAdded}
use Rattle.rs_field.specs.rows.View.{word, SameExtent, SameRowsOutside}
use Rattle.rs_field.specs.declared.rows.shards.ShardsRefMut.{ShardsRefMut}
use Rattle.rs_field.proofs.words_lemmas.Product.{product_zero}
use Rattle.rs_field.proofs.words_lemmas.Total.{product-comm}
use Rattle.rs_field.proofs.words_lemmas.Subspace.{subspace_from_zero}
use Rattle.rs_field.proofs.words_lemmas.Roots.{WordsOneByOne, words_from, value_lt, value-nil}
use Rattle.rs_field.proofs.words_lemmas.Values.{same_from_values}
use Rattle.rs_field.proofs.words_lemmas.Factors.{add, times, points, value_add, value-times, length-add, length-times}
use Rattle.rs_field.proofs.words_lemmas.Factors.{words_add, words_times, all_words}
use Rattle.rs_field.proofs.words_lemmas.Combination.{forward-same, forward-xor, forward-half}
use Rattle.rs_field.proofs.words_lemmas.Coefficients.{IsSum, sum_polynomial}
use Rattle.rs_field.proofs.words_lemmas.Derivative.{derivative_lt, derivative-nil, derivative-cons, derivative_add}
use Rattle.rs_field.proofs.words_lemmas.Derivative.{derivative-subspace}
use Rattle.rs_field.proofs.words_lemmas.Halves.{half_power, few_halves, subspace_lt, two_halves}
use Rattle.rs_field.proofs.words_lemmas.RingSolver.{plus, v, times as both, by_algebra}
use Rattle.rs_field.proofs.rows_lemmas.Recursion.{word_same}
use Rattle.rs_field.proofs.rows_lemmas.RowOffsets.{outside_cell}

-- There is only one polynomial with given coefficients in the subspace basis.
one_polynomial : (n : ℕ) (f : ℕ → ℕ) (p q : List ℕ) → n ≤ 65536 → length p ≡ n → WordsOneByOne p → IsInBasis n f p
    → IsSum n f q → p ≡ q
one_polynomial n f p q hn size words at s =
    same_from_values n p q size s.size words s.words (λ i. i) (λ i hi. omega arith) (λ i j hi hj e. e)
    (λ i hi. sym (at i (omega arith)) ∙ sym (s.at i))

-- Here s is the value of the subspace polynomial, l and h are the values of the halves, and dl and dh those of their
-- derivatives.
rule : (s l dl h dh : ℕ) → s < 2 ^ 16 → l < 2 ^ 16 → dl < 2 ^ 16 → h < 2 ^ 16 → dh < 2 ^ 16
    → bit_xor (bit_xor (bit_xor l dl) h) (product (bit_xor h dh) s)
    ≡ bit_xor (bit_xor l (product h s)) (bit_xor (bit_xor (product s dh) h) dl)
rule s l dl h dh hs hl hdl hh hdh =
    by_algebra (s ∷ l ∷ dl ∷ h ∷ dh ∷ [])
    (plus (plus (plus (v 1) (v 2)) (v 3)) (both (plus (v 3) (v 4)) (v 0)))
    (plus (plus (v 1) (both (v 3) (v 0))) (plus (plus (both (v 0) (v 4)) (v 3)) (v 2)))
    (hs, (hl, (hdl, (hh, (hdh, tt))))) refl

module _ (e : ℕ) (f : ℕ → ℕ) (p q : List ℕ) (he : e < 16) (low : IsSum (2 ^ e) f p)
    (high : IsSum (2 ^ e) (λ i. f (2 ^ e + i)) q) where
  -- The polynomial of a sum of 2 ^ (e + 1) terms, joined from the polynomials of its two halves.
  abbrev joined : List ℕ
  joined = add (times (points 0 (2 ^ e)) q) p

  is_joined : IsSum (2 ^ suc e) f joined
  is_joined = record {
    size = let s = low.size in let t = high.size in search (rules, length-times, pow-suc, length-add);
    words = words_add (times (points 0 (2 ^ e)) q) p (words_times (points 0 (2 ^ e)) q high.words) low.words;
    at = λ x.
        cc (
          value_add (times (points 0 (2 ^ e)) q) p x,
          value-times 0 (2 ^ e) q high.words x,
          subspace_from_zero e x,
          zero-add x,
          high.at x,
          low.at x,
          product-comm (subspace e x) (value q x),
          xor_comm (product (value q x) (subspace e x)) (value p x),
          forward-half e 0 f x he,
        );
  }

  derivative-joined : (x : ℕ) → x < 2 ^ 16 → derivative_value joined x
      ≡ bit_xor (bit_xor (product (subspace e x) (derivative_value q x)) (value q x)) (derivative_value p x)
  derivative-joined x hx = search (rules, derivative_add, derivative-subspace)

module _ (f a b g : ℕ → ℕ) where
  -- The step of n + n words is made by the steps of both halves, where the old words of the second half are added to
  -- the first half.
  abbrev IsStepOfHalves : ℕ → Type 0
  IsStepOfHalves n =
      IsDerivativeAdded n f a → IsDerivativeAdded n (λ q. f (n + q)) b
      → ((q : ℕ) → q < n → g q ≡ bit_xor (a q) (f (n + q))) → ((q : ℕ) → q < n → g (n + q) ≡ b q)
      → IsDerivativeAdded (n + n) f g

  derivative_halves : (e : ℕ) → e < 16 → IsStepOfHalves (2 ^ e)
  derivative_halves e he of_low of_high first second p size words at x hx =
      let n : ℕ = 2 ^ e in
      let room : 2 ^ suc e ≤ 2 ^ 16 = pow_mono he in
      let double : n + n ≡ 2 ^ suc e = let t = pow-suc 2 e in omega arith in
      let (l, low) = sum_polynomial n f (omega arith) in
      let (h, high) = sum_polynomial n (λ q. f (n + q)) (omega arith) in
      let whole = is_joined e f l h he low high in
      cc (
        double,
        forward-half e 0 g x he,
        forward-same n 0 g (λ q. bit_xor (a q) (f (n + q))) x first,
        forward-xor n 0 a (λ q. f (n + q)) x,
        of_low l low.size (all_words l low.words) (λ y hy. sym (low.at y)) x hx,
        high.at x,
        forward-same n 0 (λ q. g (n + q)) b x second,
        of_high h high.size (all_words h high.words) (λ y hy. sym (high.at y)) x hx,
        zero-add x,
        rule (subspace e x) (value l x) (derivative_value l x) (value h x) (derivative_value h x) (subspace_lt e x)
            (value_lt l x low.words) (derivative_lt l x low.words) (value_lt h x high.words)
            (derivative_lt h x high.words),
        low.at x,
        forward-half e 0 f x he,
        whole.at x,
        derivative-joined e f l h he low high x hx,
        one_polynomial (2 ^ suc e) f p (joined e f l h he low high) room (size ∙ double) (words_from p words)
            (subst (λ m. IsInBasis m f p) double at) whole,
      )

-- A polynomial with one coefficient is a constant, and its derivative is zero.
pub derivative_one : {size : ℕ} (f : ℕ → ℕ) → size ≤ 1 → IsDerivativeAdded size f f
derivative_one f small p len words at x hx =
    at x hx ∙ sym (ap (bit_xor (value p x)) (constant p (omega arith)) ∙ xor_zero_r (value p x))
  where
    constant : (p : List ℕ) → length p ≤ 1 → derivative_value p x ≡ 0
    constant [] h = derivative-nil x
    constant (c ∷ []) h =
        derivative-cons c [] x ∙ ap₂ bit_xor (value-nil x) (ap (product x) (derivative-nil x) ∙ product_zero x)
    constant (c ∷ d ∷ cs) h = absurd (let no : ⊥ = omega arith in no)

-- The derivative step depends only on the first n words.
derivative_same : {n : ℕ} {f f' g g' : ℕ → ℕ} → ((q : ℕ) → q < n → f' q ≡ f q) → ((q : ℕ) → q < n → g q ≡ g' q)
    → IsDerivativeAdded n f' g' → IsDerivativeAdded n f g
derivative_same {n} {f} {f'} {g} {g'} same_f same_g h p size words at x hx = search (rules, forward-same)

-- The words outside of changed rows are the same.
outside_word : (a b : ℕ) {old new : ShardsRefMut} → SameExtent old new → SameRowsOutside a b old new
    → (k s r : ℕ) → k < old.shard_len_64 → (r < a) ⊎ (b ≤ r) → word new k s r ≡ word old k s r
outside_word a b {old} {new} extent others k s r hk h =
    word_same new old k s r r (outside_cell extent others r k hk h)

-- The effect of the calls of the derivative step on the rows.
pub derivative_rows : {old low mid new : ShardsRefMut} (pos : ℕ) {size : ℕ} (k s : ℕ) → 1 < size
    → (d : ℕ) × (size ≡ 2 ^ d) → size ≤ 65536 → k < old.shard_len_64
    → SameExtent old low → SameRowsOutside pos (pos + size / 2) old low
    → SameExtent low mid → SameRowsOutside pos (pos + size / 2) low mid
    → SameExtent mid new → SameRowsOutside (pos + size / 2) (pos + size / 2 + size / 2) mid new
    → IsDerivativeAdded (size / 2) (λ q. word old k s (pos + q)) (λ q. word low k s (pos + q))
    → ((q : ℕ) → q < size / 2
    → word mid k s (pos + q) ≡ bit_xor (word low k s (pos + q)) (word low k s (pos + size / 2 + q)))
    → IsDerivativeAdded (size / 2) (λ q. word mid k s (pos + size / 2 + q)) (λ q. word new k s (pos + size / 2 + q))
    → IsDerivativeAdded size (λ q. word old k s (pos + q)) (λ q. word new k s (pos + q))
derivative_rows {old} {low} {mid} {new} pos {size} k s large power few hk to_low low_else to_mid mid_else to_new
    new_else of_low sums of_high =
    let (e, is, h) = half_power size large power in
    let half : ℕ = size / 2 in
    let there : (q : ℕ) → pos + half + q ≡ pos + (half + q) = λ q. add_assoc pos half q in
    let low_high : (q : ℕ) → word low k s (pos + half + q) ≡ word old k s (pos + (half + q)) =
    λ q. outside_word pos (pos + half) to_low low_else k s (pos + half + q) hk (inr (omega arith))
    ∙ ap (word old k s) (there q) in
    let mid_hk : k < mid.shard_len_64 = omega (arith, to_low.len_64, to_mid.len_64) in
    subst (λ n. IsDerivativeAdded n (λ q. word old k s (pos + q)) (λ q. word new k s (pos + q)))
    (sym (two_halves size large power))
    (subst (IsStepOfHalves (λ q. word old k s (pos + q)) (λ q. word low k s (pos + q))
    (λ q. word new k s (pos + half + q)) (λ q. word new k s (pos + q))) (sym h)
    (derivative_halves _ _ _ _ e (few_halves size e 0 is (omega arith))) of_low
    (derivative_same
    (λ q hq.
    outside_word pos (pos + half) to_mid mid_else k s (pos + half + q) (omega (arith, to_low.len_64))
    (inr (omega arith))
    ∙ low_high q)
    (λ q hq. refl) of_high)
    (λ q hq.
    outside_word (pos + half) (pos + half + half) to_new new_else k s (pos + q) mid_hk (inl (omega arith))
    ∙ sums q hq ∙ ap (bit_xor (word low k s (pos + q))) (low_high q))
    (λ q hq. ap (word new k s) (sym (there q))))

-- The derivative step on the words from word 0 on is the step on all words.
pub derivative_all : (f g : ℕ → ℕ) {size n : ℕ} → size ≡ n → IsDerivativeAdded size (λ q. f (0 + q)) (λ q. g (0 + q))
    → IsDerivativeAdded n f g
derivative_all f g e h =
    subst (λ m. IsDerivativeAdded m f g) e
    (derivative_same (λ q hq. ap f (zero-add q)) (λ q hq. ap g (sym (zero-add q))) h)
