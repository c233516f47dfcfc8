-- Coding with the low rate: the transforms of one column turn the original words into the recovery words of the code.
use Rattle.std.proofs.Common.{◌≡◌, ℕ, true, ◌+◌, ◌-◌, ◌<◌, ◌≤◌, min, sym, ap, ◌∙◌, arith, inl, inr, zero-add}
use Rattle.std.proofs.lemmas.Bool.{cases_lt}
use Rattle.std.proofs.Math.Nat.{sub-zero}
use Rattle.rs_field.specs.words.Polynomial.{value}
use Rattle.rs_field.specs.words.Transform.{forward}
use Rattle.rs_field.specs.code.Counts.{next_power, supports, is_low, low_rate}
use Rattle.rs_field.specs.code.Frame.{frame_of, low_frame}
use Rattle.rs_field.proofs.words_lemmas.Combination.{forward-same, forward-moved}
use Rattle.rs_field.proofs.words_lemmas.Coefficients.{polynomial_of_terms}
use Rattle.rs_field.proofs.words_lemmas.UpTo.{get-up_to}
use Rattle.rs_field.proofs.code_lemmas.SupportedCounts.{low_fits}
use Rattle.rs_rate.specs.passes.Coding.{CodesWords, zero_padded}
use Rattle.rs_rate.proofs.passes_lemmas.ZeroPadded.{zero_padded-in, zero_padded-past}

-- A transform with a shift returns the values of the transform without a shift, from the shifted index on.
from_start : (n shift : ℕ) (f : ℕ → ℕ) (i : ℕ) → forward n shift f i ≡ forward n 0 f (shift + i)
from_start n shift f i = ap (λ s. forward n s f i) (sym (zero-add shift)) ∙ forward-moved n 0 shift f i

-- The combination is copied to one more run of rows and transformed there to its values.
pub further-more : (size start r wanted : ℕ) (first now copied new : ℕ → ℕ) → wanted ≡ min size (r - start)
    → size ≤ start
    → ((q : ℕ) → q < size → now q ≡ first q)
    → ((i : ℕ) → size ≤ i → i < start → i < r → now i ≡ forward size 0 first (size + i))
    → ((q : ℕ) → q < size → copied (start + q) ≡ now q)
    → ((i : ℕ) → i < start → copied i ≡ now i)
    → ((i : ℕ) → i < wanted → new (start + i) ≡ forward size (start + size) (λ q. copied (start + q)) i)
    → ((i : ℕ) → i < start → new i ≡ copied i)
    → (i : ℕ) → size ≤ i → i < start + size → i < r → new i ≡ forward size 0 first (size + i)
further-more size start r wanted first now copied new few after combination values copy kept transform kept_too i low
    high inside =
    elim (cases_lt i start) [
      | inl before ↦ kept_too i before ∙ kept i before ∙ values i low before inside
      | inr here ↦
          let place : start + (i - start) ≡ i = omega arith in
          let point : start + size + (i - start) ≡ size + i = omega arith in
          ap new (sym place) ∙ transform (i - start) (omega arith)
          ∙ forward-same size (start + size) (λ q. copied (start + q)) first (i - start)
          (λ q h. copy q h ∙ combination q h)
          ∙ from_start size (start + size) first (i - start) ∙ ap (forward size 0 first) point
    ]

-- The transforms take the originals and zeros to a combination, and the combination to the recovery words.
pub low_coded : (k r size : ℕ) (old cleared combination further new : ℕ → ℕ) → supports low_rate k r ≡ true
    → size ≡ next_power k → k ≤ size
    → ((j : ℕ) → j < size → cleared j ≡ zero_padded k old j)
    → ((j : ℕ) → j < size → cleared (0 + j) ≡ forward size 0 (λ q. combination (0 + q)) j)
    → ((q : ℕ) → q < size → further q ≡ combination q)
    → ((i : ℕ) → size ≤ i → i < r → further i ≡ forward size 0 combination (size + i))
    → ((i : ℕ) → i < min size r → new (0 + i) ≡ forward size size (λ q. further (0 + q)) i)
    → ((i : ℕ) → size ≤ i → new i ≡ further i)
    → CodesWords low_rate k r old new
unfolding frame_of low_frame is_low
low_coded k r size old cleared combination further new supported is room originals back same values first others =
    let fits = (low_fits k r supported).2 in
    let (p, long, words, at) = polynomial_of_terms size combination (omega (arith, is, fits)) in (
      p,
      record {
        degree = long ∙ is ∙ sym (sub-zero (next_power k));
        coefficients = words;
        originals = λ j hj.
            ap (value p) (zero-add j) ∙ at j ∙ value_at j (omega (arith, hj, room)) ∙ zero_padded-in k old j hj
            ∙ sym (get-up_to k old j 0 hj);
        zeros = λ x low high. at x ∙ value_at x (omega (arith, is, high)) ∙ zero_padded-past k old x low;
      },
      (λ i hi.
          get-up_to r new i 0 hi ∙ recovered i hi ∙ sym (at (size + i))
          ∙ ap (λ m. value p (m + i)) is),
    )
  where
    value_at : (j : ℕ) → j < size → forward size 0 combination j ≡ zero_padded k old j
    value_at j hj =
        sym (ap cleared (sym (zero-add j)) ∙ back j hj
        ∙ forward-same size 0 (λ q. combination (0 + q)) combination j (λ q hq. ap combination (zero-add q)))
        ∙ originals j hj

    recovered : (i : ℕ) → i < r → new i ≡ forward size 0 combination (size + i)
    recovered i hi = elim (cases_lt i size) [
      | inl small ↦
          ap new (sym (zero-add i)) ∙ first i (omega arith)
          ∙ forward-same size size (λ q. further (0 + q)) combination i (λ q hq. ap further (zero-add q) ∙ same q hq)
          ∙ from_start size size combination i
      | inr large ↦ others i large ∙ values i large hi
    ]
