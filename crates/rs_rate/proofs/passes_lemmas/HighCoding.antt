-- Coding with the high rate: the transforms of one column turn the original words into the recovery words of the code.
use Rattle.std.proofs.Common.{rules, ◌≡◌, ℕ, zero, suc, ◌+◌, ◌-◌, ◌*◌, ◌/◌, ◌%◌, ◌^◌, ◌<◌, ◌≤◌, Bool, true, cond, eqb}
use Rattle.std.proofs.Common.{List, length, bit_xor, refl, sym, ap, ap₂, ◌∙◌, subst, inl, inr, arith, zero-add, add-one}
use Rattle.std.proofs.Common.{pow-add}
use Rattle.std.specs.Prelude.{All, nat_lt}
use Rattle.std.specs.Int.Bits.{xor_assoc, xor_self, xor_zero_l, xor_zero_r}
use Rattle.std.proofs.Math.Nat.{zero-div, zero-mod, mul-le-mul_right, div_self, add-div_right}
use Rattle.std.proofs.lemmas.Bool.{cases_lt, lt-ltb, le-ltb, eq-eqb}
use Rattle.std.proofs.lemmas.Nat.{pow_pos, div-add-mod'}
use Rattle.rs_field.specs.words.Polynomial.{value}
use Rattle.rs_field.specs.words.Transform.{sum_below, forward, IsBackward}
use Rattle.rs_field.specs.code.Counts.{next_power, supports, is_low, high_rate}
use Rattle.rs_field.specs.code.Frame.{frame_of, high_frame}
use Rattle.rs_field.proofs.words_lemmas.UpTo.{get-up_to}
use Rattle.rs_field.proofs.words_lemmas.Combination.{sum_below-suc, sum_below-zero, sum_below-same, sum_below-add}
use Rattle.rs_field.proofs.words_lemmas.Combination.{forward-same, forward-zero}
use Rattle.rs_field.proofs.words_lemmas.Coefficients.{forward-fewer, polynomial_of_terms}
use Rattle.rs_field.proofs.words_lemmas.TopBlock.{joined_blocks, values-joined, last-joined}
use Rattle.rs_rate.specs.passes.Coding.{SumsBlocks, CodesWords, zero_padded}
use Rattle.rs_rate.proofs.passes_lemmas.ZeroPadded.{zero_padded-in, zero_padded-past, zero_padded-same}
use Rattle.rs_field.proofs.code_lemmas.NextPower.{next_power-small}
use Rattle.rs_rate.proofs.values_lemmas.HighCounts.{high_small}

-- ---- sums of combinations

sum_one : (f : ℕ → ℕ) → sum_below 1 f ≡ f 0
sum_one f = search (rules, sum_below-suc, sum_below-zero)

-- The sums of one block are the combination of the first block.
sums-first : (m k : ℕ) (old sums : ℕ → ℕ) → ((i : ℕ) → i < m → forward m m sums i ≡ zero_padded k old i)
    → SumsBlocks m 1 k old sums
sums-first m k old sums values = (
  (λ u. sums),
  (λ u i hu hi.
      let none : u * m ≡ 0 = (let e : u ≡ 0 = omega arith in ap (λ v. v * m) e ∙ omega arith) in
      ap (λ s. forward m s sums i) (let s : u * m + m ≡ m = omega arith in s) ∙ values i hi
      ∙ ap (zero_padded k old) (let e : i ≡ u * m + i = omega arith in e)),
  (λ q hq. sym (sum_one (λ u. sums q))),
)

-- A family of combinations, extended by one combination.
extended : ℕ → (ℕ → ℕ → ℕ) → (ℕ → ℕ) → ℕ → ℕ → ℕ
extended n those one u q = cond (eqb u n) (one q) (those u q)

extended-before : (n : ℕ) (those : ℕ → ℕ → ℕ) (one : ℕ → ℕ) (u q : ℕ) → u < n → extended n those one u q ≡ those u q
unfolding extended
extended-before n those one u q h = search rules

extended-last : (n : ℕ) (those : ℕ → ℕ → ℕ) (one : ℕ → ℕ) (q : ℕ) → extended n those one n q ≡ one q
unfolding extended
extended-last n those one q = ap (λ (b : Bool). cond b (one q) (those n q)) (eq-eqb n n refl)

-- Adding the combination of one more block to the sums gives the sums of one more block.
sums-more : (m n k : ℕ) (old sums one more : ℕ → ℕ)
    → ((i : ℕ) → i < m → forward m (n * m + m) one i ≡ zero_padded k old (n * m + i))
    → ((q : ℕ) → q < m → more q ≡ bit_xor (sums q) (one q)) → SumsBlocks m n k old sums
    → SumsBlocks m (suc n) k old more
sums-more m n k old sums one more values added (those, those_values, sum) = (
  extended n those one,
  (λ u i hu hi. elim (cases_lt u n) [
    | inl before ↦ earlier u i before ∙ those_values u i before hi
    | inr here ↦
        let e : u ≡ n = omega arith in
        latest u i e ∙ values i hi ∙ ap (λ v. zero_padded k old (v * m + i)) (sym e)
  ]),
  (λ q hq.
      added q hq
      ∙ sym (sum_below-suc n (λ u. extended n those one u q)
      ∙ ap₂ bit_xor (sum_below-same n (λ u. extended n those one u q) (λ u. those u q)
      (λ u h. extended-before n those one u q h) ∙ sym (sum q hq)) (extended-last n those one q))),
)
  where
    earlier : (u i : ℕ) → u < n → forward m (u * m + m) (extended n those one u) i ≡ forward m (u * m + m) (those u) i
    earlier u i h = forward-same m (u * m + m) (extended n those one u) (those u) i
        (λ q hq. extended-before n those one u q h)

    latest : (u i : ℕ) → u ≡ n → forward m (u * m + m) (extended n those one u) i ≡ forward m (n * m + m) one i
    latest u i e =
        ap (λ v. forward m (v * m + m) (extended n those one v) i) e
        ∙ forward-same m (n * m + m) (extended n those one n) one i (λ q hq. extended-last n those one q)

-- The backward transform of the first block gives the sums of one block.
pub sums-start : (m k : ℕ) (old passed : ℕ → ℕ) → 0 < m
    → ((i : ℕ) → i < m → forward m (0 + m) (λ q. passed (0 + q)) i ≡ zero_padded k old (0 + i))
    → SumsBlocks m (m / m) k old passed
sums-start m k old passed some values =
    subst (λ (n : ℕ). SumsBlocks m n k old passed) (sym (div_self some))
    (sums-first m k old passed (λ i hi.
    ap (λ s. forward m s passed i) (sym (zero-add m))
    ∙ forward-same m (0 + m) passed (λ q. passed (0 + q)) i (λ q hq. ap passed (sym (zero-add q)))
    ∙ values i hi ∙ ap (zero_padded k old) (zero-add i)))

-- The backward transform of the next block, added to the first block, gives the sums of one more block.
pub sums-next : (m start k : ℕ) (old now passed new : ℕ → ℕ) → 0 < m → start % m ≡ 0
    → ((i : ℕ) → start ≤ i → now i ≡ old i)
    → ((i : ℕ) → i < m → forward m (start + m) (λ q. passed (start + q)) i ≡ zero_padded k now (start + i))
    → ((q : ℕ) → q < m → passed q ≡ now q)
    → ((q : ℕ) → q < m → new (0 + q) ≡ bit_xor (passed (0 + q)) (passed (start + q)))
    → SumsBlocks m (start / m) k old now → SumsBlocks m ((start + m) / m) k old new
sums-next m start k old now passed new some multiple left values kept added sums =
    let parts : start / m * m + start % m ≡ start = div-add-mod' start m in
    let whole : start / m * m ≡ start = omega arith in
    let next : (start + m) / m ≡ suc (start / m) = add-div_right start some ∙ add-one (start / m) in
    subst (λ (n : ℕ). SumsBlocks m n k old new) (sym next)
    (sums-more m (start / m) k old now (λ q. passed (start + q)) new
    (λ i hi.
    ap (λ t. forward m (t + m) (λ q. passed (start + q)) i) whole ∙ values i hi
    ∙ zero_padded-same k now (start + i) old (left (start + i) (omega arith))
    ∙ ap (λ t. zero_padded k old (t + i)) (sym whole))
    (λ q hq. ap new (sym (zero-add q)) ∙ added q hq
    ∙ ap (λ v. bit_xor v (passed (start + q))) (ap passed (zero-add q) ∙ kept q hq)) sums)

-- The sums of no block are zero.
pub sums-none : (m k : ℕ) (old sums : ℕ → ℕ) → ((q : ℕ) → q < m → sums q ≡ 0) → SumsBlocks m (0 / m) k old sums
unfolding sum_below
sums-none m k old sums zeros =
    subst (λ (n : ℕ). SumsBlocks m n k old sums) (sym (zero-div m))
    ((λ u q. 0), (λ u i none. absurd (omega (arith, none))), zeros)

-- What is added for the next block to the sums gives the sums of one more block.
pub sums-added : (m start k : ℕ) (old now new : ℕ → ℕ) → 0 < m → start % m ≡ 0
    → IsBackward m (start + m) (λ i. zero_padded k old (start + i)) (λ q. bit_xor (now q) (new q))
    → SumsBlocks m (start / m) k old now → SumsBlocks m ((start + m) / m) k old new
sums-added m start k old now new some multiple added sums =
    let parts : start / m * m + start % m ≡ start = div-add-mod' start m in
    let whole : start / m * m ≡ start = omega arith in
    let next : (start + m) / m ≡ suc (start / m) = add-div_right start some ∙ add-one (start / m) in
    subst (λ (n : ℕ). SumsBlocks m n k old new) (sym next)
    (sums-more m (start / m) k old now (λ q. bit_xor (now q) (new q)) new
    (λ i hi.
    ap (λ t. forward m (t + m) (λ q. bit_xor (now q) (new q)) i) whole ∙ sym (added i hi)
    ∙ ap (λ t. zero_padded k old (t + i)) (sym whole))
    (λ q hq. sym (sym (xor_assoc (now q) (now q) (new q)) ∙ ap (λ v. bit_xor v (new q)) (xor_self (now q))
    ∙ xor_zero_l (new q))) sums)

-- ---- the polynomial

-- The family that has the first combination at block 0, the next combinations at the n blocks after it, and zeros at
-- later blocks.
family : (ℕ → ℕ) → ℕ → (ℕ → ℕ → ℕ) → ℕ → ℕ → ℕ
family first n later zero q = first q
family first n later (suc u) q = cond (nat_lt u n) (later u q) 0

family-first : (first : ℕ → ℕ) (n : ℕ) (later : ℕ → ℕ → ℕ) (q : ℕ) → family first n later 0 q ≡ first q
unfolding family
family-first first n later q = refl

family-later : (first : ℕ → ℕ) (n : ℕ) (later : ℕ → ℕ → ℕ) (u q : ℕ) → u < n
    → family first n later (suc u) q ≡ later u q
unfolding family
family-later first n later u q h = ap (λ (b : Bool). cond b (later u q) 0) (lt-ltb u n h)

family-past : (first : ℕ → ℕ) (n : ℕ) (later : ℕ → ℕ → ℕ) (u q : ℕ) → n ≤ u → family first n later (suc u) q ≡ 0
unfolding family
family-past first n later u q h = ap (λ (b : Bool). cond b (later u q) 0) (le-ltb u n h)

-- If the first combination is the sum of the next ones, the whole family has the sum zero.
sum_family : (first : ℕ → ℕ) (n : ℕ) (later : ℕ → ℕ → ℕ) (q count : ℕ) → suc n ≤ count
    → first q ≡ sum_below n (λ u. later u q)
    → sum_below count (λ j. family first n later (0 + j) q) ≡ 0
sum_family first n later q count room sum =
    let rest : ℕ = count - suc n in
    let parts : 1 + (n + (count - suc n)) ≡ count = omega arith in
    let all : ℕ → ℕ = λ j. family first n later j q in
    sum_below-same count (λ j. family first n later (0 + j) q) all (λ j h. ap all (zero-add j))
    ∙ ap (λ c. sum_below c all) (sym parts) ∙ sum_below-add 1 (n + rest) all
    ∙ ap₂ bit_xor (sum_one all ∙ family-first first n later q)
    (sum_below-add n rest (λ i. all (1 + i))
    ∙ ap₂ bit_xor (sum_below-same n (λ i. all (1 + i)) (λ u. later u q)
    (λ u h. ap all (next u) ∙ family-later first n later u q h) ∙ sym sum)
    (sum_below-zero rest (λ i. all (1 + (n + i)))
    (λ i h. ap all (next (n + i)) ∙ family-past first n later (n + i) q (omega arith)))
    ∙ xor_zero_r (first q))
    ∙ xor_self (first q)
  where
    next : (u : ℕ) → 1 + u ≡ suc u
    next u = omega arith

-- A point below n blocks is in one of the n blocks.
quotient_below : (j n m i x : ℕ) → x ≡ j * m + i → x < n * m → j < n
quotient_below j n m i x is h = search rules

-- A polynomial whose values on each block of points are the values of the combination of this block.
record IsHigh (m all n : ℕ) (sums : ℕ → ℕ) (those : ℕ → ℕ → ℕ) (p : List ℕ) : Type 0 where
  size : length p ≡ all - m
  words : All (λ w. w < 65536) p
  blocks : (j i x : ℕ) → x ≡ j * m + i → x < all → i < m → value p x ≡ forward m (j * m) (family sums n those j) i

high_polynomial : (d t n : ℕ) (sums : ℕ → ℕ) (those : ℕ → ℕ → ℕ) → 2 ^ (d + t) ≤ 65536 → suc n ≤ 2 ^ t
    → ((q : ℕ) → q < 2 ^ d → sums q ≡ sum_below n (λ u. those u q)) → (p : List ℕ)
    × IsHigh (2 ^ d) (2 ^ (d + t)) n sums those p
high_polynomial d t n sums those few room sum =
    let m : ℕ = 2 ^ d in
    let all : ℕ = 2 ^ (d + t) in
    let product : 2 ^ (d + t) ≡ 2 ^ d * 2 ^ t = pow-add 2 d t in
    let positive : 0 < 2 ^ d = pow_pos d in
    let least : 2 ^ d ≤ 2 ^ (d + t) =
    (let le : 1 * 2 ^ d ≤ 2 ^ t * 2 ^ d = mul-le-mul_right (2 ^ d) (let h : 1 ≤ 2 ^ t = omega arith in h) in
    omega arith) in
    let g : ℕ → ℕ → ℕ = family sums n those in
    let f : ℕ → ℕ = joined_blocks d t 0 (family sums n those) in
    let start : 0 * 2 ^ d ≡ 0 = omega arith in
    let whole : (0 * 2 ^ d) % 2 ^ (d + t) ≡ 0 = ap (λ v. v % 2 ^ (d + t)) start ∙ zero-mod (2 ^ (d + t)) in
    let ends : 2 ^ (d + t) - 2 ^ d + 2 ^ d ≡ 2 ^ (d + t) = omega arith in
    let last : (q : ℕ) → q < 2 ^ d → f (2 ^ (d + t) - 2 ^ d + q) ≡ 0
    = λ q h. last-joined d t 0 (family sums n those) (2 ^ (d + t) - 2 ^ d) q ends
    ∙ sum_family sums n those q (2 ^ t) room (sum q h) in
    let p = polynomial_of_terms (all - m) f (omega arith) in (
      p.0,
      record {
        size = p.1;
        words = p.2;
        blocks = λ j i x is within hi.
            let block : j < 2 ^ t =
            quotient_below j (2 ^ t) (2 ^ d) i x is (let h : x < 2 ^ t * 2 ^ d = omega arith in h) in
            let here : 0 + j ≡ j = omega arith in
            p.3 x ∙ sym (forward-fewer (all - m) m f x last)
            ∙ ap₂ (λ c s. forward c s f x) ends (sym start) ∙ ap (forward all (0 * m) f) is
            ∙ values-joined d t 0 g j i whole (omega arith) block hi
            ∙ ap (λ v. forward m (v * m) (g v) i) here;
      },
    )

-- If the new words are the first values of the sums, they are the recovery words.
pub high_coded : (k r n : ℕ) (old sums new : ℕ → ℕ) → supports high_rate k r ≡ true → k ≤ n * next_power r
    → n * next_power r + next_power r ≤ 65536
    → SumsBlocks (next_power r) n k old sums → ((i : ℕ) → i < r → new i ≡ forward (next_power r) 0 sums i)
    → CodesWords high_rate k r old new
unfolding frame_of high_frame is_low
high_coded k r n old sums new is enough room (those, values, sum) first =
    let known = next_power-small r (high_small k r is) in
    let m : ℕ = next_power r in
    let d : ℕ = known.0 in
    let power : next_power r ≡ 2 ^ d = known.2 in
    let most : r ≤ next_power r = known.3 in
    let few : d ≤ 16 = known.1 in
    let positive : 0 < next_power r = (let h = pow_pos d in omega arith) in
    let all : 2 ^ (d + (16 - d)) ≡ 65536 = ap (λ e. 2 ^ e) (let parts : d + (16 - d) ≡ 16 = omega arith in parts) in
    let (p, made) = high_polynomial d (16 - d) n sums those (omega arith)
    (blocks d (16 - d) n (next_power r) power all room) (λ q h. sum q (omega arith)) in
    let shape : IsHigh (next_power r) 65536 n sums those p
    = subst (λ (c : ℕ). IsHigh c 65536 n sums those p) (sym power)
    (subst (λ (c : ℕ). IsHigh (2 ^ d) c n sums those p) all made) in (
      p,
      record {
        degree = shape.size;
        coefficients = shape.words;
        originals = λ j hj.
            let parts : j / m * m + j % m ≡ j = div-add-mod' j m in
            let hi : j % m < next_power r = omega arith in
            let hu : j / m < n = quotient_below (j / m) n m (j % m) j (sym parts) (omega arith) in
            further p shape (j / m) (j % m) (next_power r + j)
            (let e : next_power r + j ≡ j / m * m + m + j % m = omega arith in e) (omega arith) hi
            ∙ later (j / m) (j % m) hu ∙ values (j / m) (j % m) hu hi ∙ ap (zero_padded k old) parts
            ∙ zero_padded-in k old j hj ∙ sym (get-up_to k old j 0 hj);
        zeros = λ x low high.
            let u : ℕ = (x - m) / m in
            let i : ℕ = (x - m) % m in
            let parts : (x - m) / m * m + (x - m) % m ≡ x - m = div-add-mod' (x - m) m in
            let hi : (x - m) % m < next_power r = omega arith in
            further p shape u i x (let e : x ≡ (x - m) / m * m + m + (x - m) % m = omega arith in e) high hi
            ∙ elim (cases_lt u n) [
              | inl hu ↦ later u i hu ∙ values u i hu hi ∙ zero_padded-past k old (u * m + i) (omega arith)
              | inr past ↦ forward-zero m (u * m + m) (family sums n those (suc u)) i
                  (λ q hq. family-past sums n those u q past)
            ];
      },
      (λ i hi.
          let start : 0 * m ≡ 0 = omega arith in
          get-up_to r new i 0 hi ∙ first i hi
          ∙ sym (ap (value p) (zero-add i)
          ∙ shape.blocks 0 i i (let e : i ≡ 0 * m + i = omega arith in e) (omega arith) (omega arith)
          ∙ ap (λ s. forward m s (family sums n those 0) i) start
          ∙ forward-same m 0 (family sums n those 0) sums i (λ q hq. family-first sums n those q))),
    )
  where
    blocks : (d t n m : ℕ) → m ≡ 2 ^ d → 2 ^ (d + t) ≡ 65536 → n * m + m ≤ 65536 → suc n ≤ 2 ^ t
    blocks d t n m power all room =
        let product : 2 ^ (d + t) ≡ 2 ^ d * 2 ^ t = pow-add 2 d t in
        elim (cases_lt n (2 ^ t)) [
          | inl less ↦ less
          | inr more ↦
              let positive : 0 < 2 ^ d = pow_pos d in
              let le : 2 ^ t * m ≤ n * m = mul-le-mul_right m more in
              let swap : 2 ^ t * m ≡ 2 ^ d * 2 ^ t = ap (λ v. 2 ^ t * v) power ∙ omega arith in
              absurd (let no : ⊥ = omega arith in no)
        ]

    -- At a later block the polynomial has the values of the combination of this block.
    further : (p : List ℕ) → IsHigh (next_power r) 65536 n sums those p → (u i x : ℕ)
        → x ≡ u * next_power r + next_power r + i → x < 65536 → i < next_power r
        → value p x ≡ forward (next_power r) (u * next_power r + next_power r) (family sums n those (suc u)) i
    further p h u i x is within hi =
        let m : ℕ = next_power r in
        let next : suc u * m ≡ u * m + m = omega arith in
        h.blocks (suc u) i x (let e : x ≡ suc u * m + i = omega arith in e) within hi
        ∙ ap (λ s. forward m s (family sums n those (suc u)) i) next

    later : (u i : ℕ) → u < n
        → forward (next_power r) (u * next_power r + next_power r) (family sums n those (suc u)) i
        ≡ forward (next_power r) (u * next_power r + next_power r) (those u) i
    later u i hu =
        forward-same (next_power r) (u * next_power r + next_power r) (family sums n those (suc u)) (those u) i
        (λ q hq. family-later sums n those u q hu)
