-- Tests that are decided by computing with literals: shards, codes and recovery shards.
use Rattle.std.proofs.Common.{◌≡◌, ℕ, ◌+◌, ◌-◌, ◌/◌, ◌^◌, ◌<◌, ◌≤◌, List, [], ◌∷◌, Bool, true, false, ◌&&◌, cond}
use Rattle.std.proofs.Common.{length, sym, ap, ◌∙◌, arith, pow_mono}
use Rattle.std.specs.Prelude.{All, not, slice_index, slice_index_or, nat_eq, nat_lt, nat_le}
use Rattle.std.specs.List.{list_all}
use Rattle.std.proofs.lemmas.Bool.{and_parts, not-true, eqb-true, ltb-true, leb-true}
use Rattle.std.proofs.lemmas.List.Elements.{All-nil, All-cons}
use Rattle.std.proofs.lemmas.Grind.{common_steps}
use Rattle.rs_field.specs.words.Polynomial.{value}
use Rattle.rs_field.specs.code.Column.{Shard, AreShards, columns}
use Rattle.rs_field.specs.code.Counts.{Rate, next_power, is_low}
use Rattle.rs_field.specs.declared.code.frame.Frame.{Frame}
use Rattle.rs_field.specs.code.Frame.{frame_of, low_frame, high_frame, degree_bound, original_row, recovery_row}
use Rattle.rs_field.specs.code.Configuration.{Configuration}
use Rattle.rs_field.specs.code.Code.{Codes, AreRecoveryWords, AreRecovery}
use Rattle.rs_field.proofs.words_lemmas.Linear.{passes_below, from_passes_below}
use Rattle.rs_field.proofs.words_lemmas.Roots.{words_from}
use Rattle.rs_field.proofs.words_lemmas.Factors.{times, points}
use Rattle.rs_field.proofs.words_lemmas.ZerosPast.{value-inside}
use Rattle.rs_field.proofs.code_lemmas.HighCodes.{high_codes}

-- If each element passes a test that implies a property, each element has the property.
all_from : {A : Type 0} (p : A → Bool) (P : A → Type 0) → ((x : A) → p x ≡ true → P x) → (xs : List A)
    → list_all p xs ≡ true → All P xs
all_from p P sound [] h = All-nil P
all_from p P sound (x ∷ xs) h =
    let parts : (p x ≡ true) × (list_all p xs ≡ true) = and_parts (p x) (list_all p xs) h in
    All-cons P x xs (sound x parts.0) (all_from p P sound xs parts.1)

-- The test whether each entry is below a bound.
abbrev all_below : ℕ → List ℕ → Bool
all_below bound xs = list_all (λ x. nat_lt x bound) xs

-- The test of `IsShard`.
abbrev is_shard : ℕ → Shard → Bool
is_shard size shard = nat_eq (length shard) size && all_below 256 shard

-- The test of `AreShards`.
abbrev pub are_shards : ℕ → ℕ → List Shard → Bool
are_shards count size shards = nat_eq (length shards) count && list_all (is_shard size) shards

-- Shards that pass `are_shards` satisfy `AreShards`.
pub shards_from : (count size : ℕ) (shards : List Shard) → are_shards count size shards ≡ true
    → AreShards count size shards
shards_from count size shards h = grind (arith, common_steps)

-- The test whether two functions are equal at the numbers below n.
abbrev same_below : ℕ → (ℕ → ℕ) → (ℕ → ℕ) → Bool
same_below n f g = passes_below n (λ i. nat_eq (f i) (g i))

-- Functions that pass `same_below` are equal at the numbers below n.
same_from : (n : ℕ) (f g : ℕ → ℕ) → same_below n f g ≡ true → (i : ℕ) → i < n → f i ≡ g i
same_from n f g h i below = eqb-true (f i) (g i) (from_passes_below n (λ i. nat_eq (f i) (g i)) h i below)

-- The test of `Codes`, at a frame.
abbrev codes_at : Frame → ℕ → List ℕ → List ℕ → Bool
codes_at at k words polynomial =
    nat_eq (length polynomial) (degree_bound at)
    && (all_below 65536 polynomial
    && (same_below k (λ j. value polynomial (original_row at j)) (slice_index words)
    && same_below (at.zeros_to - at.zeros_from) (λ x. value polynomial (at.zeros_from + x)) (λ x. 0)))

-- The test of `Codes`.
abbrev pub codes : Rate → ℕ → ℕ → List ℕ → List ℕ → Bool
codes rate k r words polynomial = codes_at (frame_of rate k r) k words polynomial

-- A polynomial that passes `codes` codes the words.
pub codes_from : {rate : Rate} {k r : ℕ} {words polynomial : List ℕ} → codes rate k r words polynomial ≡ true
    → Codes rate k r words polynomial
codes_from {rate} {k} {r} {words} {polynomial = P} h =
    let at = frame_of rate k r in
    let one : (nat_eq (length P) (degree_bound at) ≡ true) × _ = and_parts _ _ h in
    let two : (all_below 65536 P ≡ true) × _ = and_parts _ _ one.1 in
    let three : (same_below k (λ j. value P (original_row at j)) (slice_index words) ≡ true)
    × (same_below (at.zeros_to - at.zeros_from) (λ x. value P (at.zeros_from + x)) (λ x. 0) ≡ true) =
    and_parts _ _ two.1 in
    record {
      degree = eqb-true _ _ one.0;
      coefficients = all_from (λ w. nat_lt w 65536) (λ w. w < 65536) (λ w. ltb-true w 65536) P two.0;
      originals = same_from k (λ j. value P (original_row at j)) (slice_index words) three.0;
      zeros = λ x from to.
          ap (value P) (sym (omega arith))
          ∙ same_from (at.zeros_to - at.zeros_from) (λ x. value P (at.zeros_from + x)) (λ x. 0) three.1
          (x - at.zeros_from) (omega arith);
    }

-- The test of `AreRecoveryWords`, with the polynomial.
abbrev recovers_words : Rate → ℕ → ℕ → List ℕ → List ℕ → List ℕ → Bool
recovers_words rate k r words recovery polynomial =
    codes rate k r words polynomial && same_below r (slice_index recovery)
    (λ i. value polynomial (recovery_row (frame_of rate k r) i))

-- The test of `AreRecovery`, with the polynomial of each column.
abbrev pub recovers : Configuration → List Shard → List Shard → List (List ℕ) → Bool
recovers c message recovery polynomials =
    are_shards c.recovery_count c.shard_bytes recovery
    && passes_below (c.shard_bytes / 2)
    (λ j. recovers_words c.rate c.original_count c.recovery_count (columns j message) (columns j recovery)
    (slice_index_or polynomials j []))

-- Shards that pass `recovers` are the recovery shards.
pub recovery_from : {c : Configuration} {message recovery : List Shard} (polynomials : List (List ℕ))
    → recovers c message recovery polynomials ≡ true → AreRecovery c message recovery
recovery_from {c} {message} {recovery} polynomials h =
    let P : ℕ → List ℕ = λ j. slice_index_or polynomials j [] in
    let test : ℕ → Bool = λ j.
    recovers_words c.rate c.original_count c.recovery_count (columns j message) (columns j recovery) (P j) in
    let parts : (are_shards c.recovery_count c.shard_bytes recovery ≡ true)
    × (passes_below (c.shard_bytes / 2) test ≡ true) = and_parts _ _ h in
    record {
      shards = shards_from c.recovery_count c.shard_bytes recovery parts.0;
      words = λ j below.
          let column : (codes c.rate c.original_count c.recovery_count (columns j message) (P j) ≡ true) × _ =
          and_parts _ _ (from_passes_below (c.shard_bytes / 2) test parts.1 j below) in (
            P j,
            codes_from column.0,
            same_from c.recovery_count (slice_index (columns j recovery))
                (λ i. value (P j) (recovery_row (frame_of c.rate c.original_count c.recovery_count) i)) column.1,
          );
    }

-- A rate that does not use the low rate has the frame of the high rate.
placed_high : (rate : Rate) (k r : ℕ) → is_low rate k r ≡ false → frame_of rate k r ≡ high_frame k r
unfolding frame_of
placed_high rate k r h = ap (λ (b : Bool). cond b (low_frame k r) (high_frame k r)) h

-- The originals of the high rate are below 2 ^ d.
abbrev lie_below : ℕ → Rate → ℕ → ℕ → Bool
lie_below d rate k r = not (is_low rate k r) && (nat_le (next_power r + k) (2 ^ d) && (nat_le d 16 && nat_le r (2 ^ d)))

-- Below 2 ^ d, a polynomial has the original words as values from the point m on, then zeros, and the recovery words
-- from the point 0 on.
abbrev joins : ℕ → ℕ → ℕ → ℕ → List ℕ → List ℕ → List ℕ → Bool
joins d k r m words recovery polynomial =
    nat_eq (length polynomial) (2 ^ d - m) && (all_below 65536 polynomial
    && (same_below k (λ j. value polynomial (m + j)) (slice_index words)
    && (same_below (2 ^ d - (m + k)) (λ x. value polynomial (m + k + x)) (λ x. 0) && same_below r (slice_index recovery)
    (value polynomial))))

-- The test of `AreRecovery` at the high rate, with the polynomial of each column below 2 ^ d.
abbrev pub recovers_high : ℕ → Configuration → List Shard → List Shard → List (List ℕ) → Bool
recovers_high d c message recovery polynomials =
    lie_below d c.rate c.original_count c.recovery_count && (are_shards c.recovery_count c.shard_bytes recovery
    && passes_below (c.shard_bytes / 2)
    (λ j. joins d c.original_count c.recovery_count (next_power c.recovery_count) (columns j message)
    (columns j recovery) (slice_index_or polynomials j [])))

-- A polynomial that passes `joins` codes the words with their recovery words, after it is made zero at the points from
-- 2 ^ d on.
words_high : (d : ℕ) (rate : Rate) (k r : ℕ) (words recovery P : List ℕ) → lie_below d rate k r ≡ true
    → joins d k r (next_power r) words recovery P ≡ true → AreRecoveryWords rate k r words recovery
unfolding high_frame
words_high d rate k r words recovery P lie join =
    let m = next_power r in
    let a : (not (is_low rate k r) ≡ true) × _ = and_parts _ _ lie in
    let b : (nat_le (m + k) (2 ^ d) ≡ true) × _ = and_parts _ _ a.1 in
    let c : (nat_le d 16 ≡ true) × (nat_le r (2 ^ d) ≡ true) = and_parts _ _ b.1 in
    let e : (nat_eq (length P) (2 ^ d - m) ≡ true) × _ = and_parts _ _ join in
    let f : (all_below 65536 P ≡ true) × _ = and_parts _ _ e.1 in
    let g : (same_below k (λ j. value P (m + j)) (slice_index words) ≡ true) × _ = and_parts _ _ f.1 in
    let h : (same_below (2 ^ d - (m + k)) (λ x. value P (m + k + x)) (λ x. 0) ≡ true)
    × (same_below r (slice_index recovery) (value P) ≡ true) = and_parts _ _ g.1 in
    let high : frame_of rate k r ≡ high_frame k r = placed_high rate k r (not-true (is_low rate k r) a.0) in
    let depth : d ≤ 16 = leb-true d 16 c.0 in
    let top : 2 ^ d ≤ 2 ^ 16 = pow_mono {i = d} depth in
    let room : r ≤ 2 ^ d = leb-true r (2 ^ d) c.1 in
    let each = words_from P (all_from (λ w. nat_lt w 65536) (λ w. w < 65536) (λ w. ltb-true w 65536) P f.0) in (
      times (points (2 ^ d) (65536 - 2 ^ d)) P,
      high_codes rate k r d words P high depth (leb-true _ _ b.0) (eqb-true _ _ e.0) each
          (same_from k (λ j. value P (m + j)) (slice_index words) g.0)
          (λ x from to.
          let place : x ≡ m + k + (x - (m + k)) = omega arith in
          ap (value P) place ∙ same_from (2 ^ d - (m + k)) (λ x. value P (m + k + x)) (λ x. 0) h.0 (x - (m + k))
          (omega arith)),
      λ i below.
          same_from r (slice_index recovery) (value P) h.1 i below ∙ ap (value P) (omega arith)
          ∙ sym (value-inside d P depth each (0 + i) (omega arith))
          ∙ ap (λ (q : Frame). value (times (points (2 ^ d) (65536 - 2 ^ d)) P) (q.recovery_from + i)) (sym high),
    )

-- Shards that pass `recovers_high` are the recovery shards.
pub recovery_from_high : (d : ℕ) {c : Configuration} {message recovery : List Shard} (polynomials : List (List ℕ))
    → recovers_high d c message recovery polynomials ≡ true → AreRecovery c message recovery
recovery_from_high d {c} {message} {recovery} polynomials h =
    let P : ℕ → List ℕ = λ j. slice_index_or polynomials j [] in
    let test : ℕ → Bool = λ j.
    joins d c.original_count c.recovery_count (next_power c.recovery_count) (columns j message) (columns j recovery)
    (P j) in
    let a : (lie_below d c.rate c.original_count c.recovery_count ≡ true) × _ = and_parts _ _ h in
    let b : (are_shards c.recovery_count c.shard_bytes recovery ≡ true)
    × (passes_below (c.shard_bytes / 2) test ≡ true) = and_parts _ _ a.1 in
    record {
      shards = shards_from c.recovery_count c.shard_bytes recovery b.0;
      words = λ j below.
          words_high d c.rate c.original_count c.recovery_count (columns j message) (columns j recovery) (P j) a.0
          (from_passes_below (c.shard_bytes / 2) test b.1 j below);
    }
