-- Any k words are coded by a polynomial, so they have recovery words.
use Rattle.std.proofs.Common.{rules, ◌≡◌, ℕ, zero, suc, ◌-◌, ◌^◌, ◌<◌, ◌≤◌, Bool, true, cond, List, [], ◌∷◌, length}
use Rattle.std.proofs.Common.{refl, ap, ◌∙◌, arith, pow_mono}
use Rattle.std.specs.Prelude.{slice_index, nat_lt}
use Rattle.std.proofs.lemmas.Bool.{cases_lt, lt-ltb, le-ltb}
use Rattle.std.proofs.lemmas.Grind.{common_steps}
use Rattle.rs_field.specs.words.Polynomial.{value}
use Rattle.rs_field.specs.code.Counts.{Rate, supports}
use Rattle.rs_field.specs.declared.code.frame.Frame.{Frame}
use Rattle.rs_field.specs.code.Frame.{frame_of, row_count, original_row, recovery_row}
use Rattle.rs_field.specs.code.Code.{Codes, AreRecoveryWords}
use Rattle.rs_field.proofs.words_lemmas.Roots.{value_lt, words_from}
use Rattle.rs_field.proofs.words_lemmas.Interpolation.{interpolated}
use Rattle.rs_field.proofs.code_lemmas.Frame.{HasDistinctRows, coefficient_count, CodesIn, unframed}
use Rattle.rs_field.proofs.code_lemmas.RateFrames.{distinct_rows}

-- The first k values of a function, and zero from k on.
first : ℕ → (ℕ → ℕ) → ℕ → ℕ
first k f i = cond (nat_lt i k) (f i) 0

first-below : (k : ℕ) (f : ℕ → ℕ) (i : ℕ) → i < k → first k f i ≡ f i
unfolding first
first-below k f i h = ap (λ (b : Bool). cond b (f i) 0) (lt-ltb i k h)

first-past : (k : ℕ) (f : ℕ → ℕ) (i : ℕ) → k ≤ i → first k f i ≡ 0
unfolding first
first-past k f i h = ap (λ (b : Bool). cond b (f i) 0) (le-ltb i k h)

first-word : (k : ℕ) (f : ℕ → ℕ) → ((i : ℕ) → i < k → f i < 2 ^ 16) → (i : ℕ) → first k f i < 2 ^ 16
first-word k f words i = grind (arith, common_steps, cases_lt, first-below, first-past)

-- In a frame, any k words are coded by a polynomial.
coded_in : {frame : Frame} {k r : ℕ} (words : List ℕ) → HasDistinctRows frame k r
    → ((j : ℕ) → j < k → slice_index words j < 65536)
    → (q : List ℕ) × CodesIn frame k words q
coded_in {frame} {k} words f are_words =
    let room : row_count frame ≤ 2 ^ 16 = pow_mono f.few in
    let zeros = f.zeros in
    let q = interpolated frame.originals_from (coefficient_count frame) (first k (λ j. slice_index words j))
    (omega arith) (λ i h. first-word k (λ j. slice_index words j) are_words i) in (
      q.0,
      record {
        degree = q.1.degree;
        coefficients = q.1.coefficients;
        originals = λ j hj. q.1.at j (omega arith) ∙ first-below k (λ i. slice_index words i) j hj;
        zeros = λ x above below.
            let back : x ≡ original_row frame (x - frame.originals_from) = omega arith in
            ap (value q.0) back ∙ q.1.at (x - frame.originals_from) (omega arith)
            ∙ first-past k (λ i. slice_index words i) (x - frame.originals_from) (omega arith);
      },
    )

-- Any k words have a polynomial that codes the words.
pub coded : (rate : Rate) (k r : ℕ) (words : List ℕ) → supports rate k r ≡ true
    → ((j : ℕ) → j < k → slice_index words j < 65536)
    → (p : List ℕ) × Codes rate k r words p
coded rate k r words is are_words =
    let f = distinct_rows rate k r is in
    let q = coded_in words f are_words in
    let p = unframed rate f words q.0 q.1 in
    (p.0, p.1)

-- The words that a polynomial codes are below 65536.
pub coded_lt : {rate : Rate} {k r : ℕ} {words p : List ℕ} → Codes rate k r words p → (j : ℕ) → j < k
    → slice_index words j < 65536
coded_lt codes j hj = search (rules, value_lt, words_from)

-- The first n values of a function.
unfoldable pub values_of : ℕ → (ℕ → ℕ) → List ℕ
values_of zero f = []
values_of (suc n) f = f 0 ∷ values_of n (λ i. f (suc i))

pub values_of-at : (n : ℕ) (f : ℕ → ℕ) (i : ℕ) → i < n → slice_index (values_of n f) i ≡ f i
unfolding values_of
values_of-at zero f i h = absurd (let no : ⊥ = omega arith in no)
values_of-at (suc n) f zero h = refl
values_of-at (suc n) f (suc i) h = values_of-at n (λ j. f (suc j)) i (omega arith)

pub length-values_of : (n : ℕ) (f : ℕ → ℕ) → length (values_of n f) ≡ n
unfolding values_of
length-values_of zero f = refl
length-values_of (suc n) f = ap suc (length-values_of n (λ i. f (suc i)))

-- Any k words have recovery words.
pub recovered : (rate : Rate) (k r : ℕ) (words : List ℕ) → supports rate k r ≡ true
    → ((j : ℕ) → j < k → slice_index words j < 65536)
    → (recovery : List ℕ) × (length recovery ≡ r) × AreRecoveryWords rate k r words recovery
recovered rate k r words is are_words =
    let p = coded rate k r words is are_words in
    let f : ℕ → ℕ = λ i. value p.0 (recovery_row (frame_of rate k r) i) in (
      values_of r (λ i. value p.0 (recovery_row (frame_of rate k r) i)),
      length-values_of r f,
      (p.0, p.1, λ i hi. values_of-at r (λ i. value p.0 (recovery_row (frame_of rate k r) i)) i hi),
    )
