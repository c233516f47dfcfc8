-- The shards at k places of a codeword determine its message.
use Rattle.std.proofs.Common.{rules, ◌≡◌, ℕ, zero, suc, ◌+◌, ◌-◌, ◌%◌, ◌<◌, ◌≤◌, ◌⊎◌, Bool, true, false, cond, List}
use Rattle.std.proofs.Common.{◌++◌, length, sym, ap, ◌∙◌, arith, inl, inr, pow_mono, refl, add-zero, add-suc}
use Rattle.std.specs.Prelude.{slice_index, nat_lt, Option, Some, is_some}
use Rattle.std.proofs.lemmas.Bool.{cases_lt, lt-ltb, le-ltb}
use Rattle.std.proofs.lemmas.List.{get_or_append_left, get_or-append_right, length-map, map-append}
use Rattle.std.proofs.lemmas.Grind.{common_steps}
use Rattle.rs_field.specs.words.Polynomial.{value}
use Rattle.rs_field.specs.code.Column.{Shard, AreShards, shard_at, column, columns}
use Rattle.rs_field.specs.code.Counts.{Rate, supports}
use Rattle.rs_field.specs.declared.code.frame.Frame.{Frame}
use Rattle.rs_field.specs.code.Frame.{frame_of, degree_bound, original_row, recovery_row}
use Rattle.rs_field.specs.code.Configuration.{Configuration}
use Rattle.rs_field.specs.code.Code.{Codes, AreRecoveryWords, AreRecovery}
use Rattle.rs_field.specs.code.Given.{Shards, count_below, Agrees}
use Rattle.rs_field.specs.code.CodeLaws.{ArePlaces}
use Rattle.rs_field.proofs.words_lemmas.Roots.{words_from}
use Rattle.rs_field.proofs.words_lemmas.Values.{same_from_values}
use Rattle.rs_field.proofs.code_lemmas.Columns.{columns-at, shards_from_columns}
use Rattle.rs_field.proofs.code_lemmas.Given.{count_below-zero, count_below-suc, count_below-same}
use Rattle.rs_field.proofs.code_lemmas.RateFrames.{distinct_rows}
use Rattle.rs_field.proofs.code_lemmas.Frame.{HasDistinctRows}

-- A choice between two functions, by whether a number is below a bound.
below_or : {A : Type 0} → ℕ → (ℕ → A) → (ℕ → A) → ℕ → A
below_or k f g x = cond (nat_lt x k) (f x) (g (x - k))

below_or-first : {A : Type 0} (k : ℕ) (f g : ℕ → A) (x : ℕ) → x < k → below_or k f g x ≡ f x
unfolding below_or
below_or-first k f g x h = ap (λ (b : Bool). cond b (f x) (g (x - k))) (lt-ltb x k h)

below_or-then : {A : Type 0} (k : ℕ) (f g : ℕ → A) (x : ℕ) → k ≤ x → below_or k f g x ≡ g (x - k)
unfolding below_or
below_or-then k f g x h = ap (λ (b : Bool). cond b (f x) (g (x - k))) (le-ltb x k h)

-- ---- points

-- The points of a codeword are distinct from the known zeros, and k points and all known zeros are as many as the
-- coefficients.
record IsSpread (frame : Frame) (k r : ℕ) : Type 0 where
  originals : original_row frame k ≡ frame.zeros_from
  recovery : recovery_row frame r ≤ 65536
  zeros : (frame.zeros_from ≤ frame.zeros_to) × (frame.zeros_to ≤ 65536)
  apart : (i : ℕ) → i < r → (frame.zeros_to ≤ recovery_row frame i) ⊎ (recovery_row frame i < frame.originals_from)
  counts : degree_bound frame + frame.zeros_from ≡ k + frame.zeros_to

spread : {frame : Frame} {k r : ℕ} → HasDistinctRows frame k r → IsSpread frame k r
spread f = grind (arith, common_steps, pow_mono)

-- The point of a place: first the originals' points, then the points of the recovery shards.
point : Frame → ℕ → ℕ → ℕ
point p k x = below_or k (λ i. p.originals_from + i) (λ i. p.recovery_from + i) x

-- Each point is the point of an original or of a recovery shard.
point_cases : (p : Frame) (k r x : ℕ) → x < k + r → ((x < k) × (point p k x ≡ p.originals_from + x))
    ⊎ ((k ≤ x) × (x - k < r) × (point p k x ≡ p.recovery_from + (x - k)))
unfolding point
point_cases p k r x h = grind (arith, common_steps, cases_lt, below_or-first, below_or-then)

-- A point is a word and is not a known zero.
point_apart : {p : Frame} {k r : ℕ} (x : ℕ) → IsSpread p k r → x < k + r → (point p k x < 65536)
    × ((point p k x < p.zeros_from) ⊎ (p.zeros_to ≤ point p k x))
point_apart {p} {k} {r} x s hx =
    elim (point_cases p k r x hx) [
      | inl first ↦ (omega (arith, first.0, first.1), inl (omega (arith, first.0, first.1)))
      | inr later ↦ (
        omega (arith, later.1, later.2),
        elim
            (s.apart (x - k) later.1)
            [ inl past ↦ inr (omega (arith, later.2, past)) | inr before ↦ inl (omega (arith, later.2, before)) ],
      )
    ]

-- Different places have different points.
point_once : {p : Frame} {k r : ℕ} (x y : ℕ) → IsSpread p k r → x < k + r → y < k + r → point p k x ≡ point p k y
    → x ≡ y
point_once {p} {k} {r} x y s hx hy same =
    elim (point_cases p k r x hx) [
      | inl a ↦ elim (point_cases p k r y hy) [
        | inl b ↦ omega (arith, a.1, b.1)
        | inr b ↦ absurd (elim
            (s.apart (y - k) b.1)
            [ inl past ↦ omega (arith, a.0, a.1, b.2, past) | inr before ↦ omega (arith, a.0, a.1, b.2, before) ])
      ]
      | inr a ↦ elim (point_cases p k r y hy) [
        | inl b ↦ absurd (elim
            (s.apart (x - k) a.1)
            [ inl past ↦ omega (arith, b.0, b.1, a.2, past) | inr before ↦ omega (arith, b.0, b.1, a.2, before) ])
        | inr b ↦ omega (arith, a.0, a.2, b.0, b.2)
      ]
    ]

-- ---- polynomials

-- Two polynomials that code and have the same values at the points of k places are equal.
fixed_by_points : {rate : Rate} {k r : ℕ} {words other p o : List ℕ} (place : ℕ → ℕ) → supports rate k r ≡ true
    → Codes rate k r words p → Codes rate k r other o
    → ArePlaces k (k + r) place
    → ((i : ℕ) → i < k → value p (point (frame_of rate k r) k (place i))
    ≡ value o (point (frame_of rate k r) k (place i))) → p ≡ o
fixed_by_points {rate} {k} {r} {p} {o} place is cp co are same =
    by_spread (spread (distinct_rows rate k r is))
  where
    -- The k points, followed by the known zeros.
    at : ℕ → ℕ
    at = below_or k (λ i. point (frame_of rate k r) k (place i)) (λ i. (frame_of rate k r).zeros_from + i)

    at_place : (i : ℕ) → i < k → at i ≡ point (frame_of rate k r) k (place i)
    at_place i h = below_or-first k (λ n. point (frame_of rate k r) k (place n))
        (λ n. (frame_of rate k r).zeros_from + n) i h

    at_zero : (i : ℕ) → k ≤ i → at i ≡ (frame_of rate k r).zeros_from + (i - k)
    at_zero i h = below_or-then k (λ n. point (frame_of rate k r) k (place n))
        (λ n. (frame_of rate k r).zeros_from + n) i h

    by_spread : IsSpread (frame_of rate k r) k r → p ≡ o
    by_spread s =
        same_from_values (degree_bound (frame_of rate k r)) p o cp.degree co.degree (words_from p cp.coefficients)
        (words_from o co.coefficients) at
        (λ i hi. elim (cases_lt i k) [
          | inl few ↦ omega (
            arith,
            at_place i few,
            (point_apart (place i) s (are.below i few)).0,
          )
          | inr zero_point ↦ omega (arith, at_zero i zero_point)
        ])
        (λ i j hi hj e. elim (cases_lt i k) [
          | inl few ↦ elim (cases_lt j k) [
            | inl more ↦ are.once i j few more
                (point_once (place i) (place j) s (are.below i few) (are.below j more)
                (sym (at_place i few) ∙ e ∙ at_place j more))
            | inr zero_point ↦ absurd (elim (point_apart (place i) s (are.below i few)).1 [
              | inl before ↦ omega (arith, at_place i few, at_zero j zero_point, e, before)
              | inr past ↦ omega (arith, at_place i few, at_zero j zero_point, e, past)
            ])
          ]
          | inr zero_point ↦ elim (cases_lt j k) [
            | inl more ↦ absurd (elim (point_apart (place j) s (are.below j more)).1 [
              | inl before ↦ omega (arith, at_place j more, at_zero i zero_point, e, before)
              | inr past ↦ omega (arith, at_place j more, at_zero i zero_point, e, past)
            ])
            | inr both ↦ omega (arith, at_zero i zero_point, at_zero j both, e)
          ]
        ])
        (λ i hi. elim (cases_lt i k) [
          | inl few ↦ ap (value p) (at_place i few) ∙ same i few ∙ sym (ap (value o) (at_place i few))
          | inr zero_point ↦
              cp.zeros (at i) (omega (arith, at_zero i zero_point)) (omega (arith, at_zero i zero_point))
              ∙ sym (co.zeros (at i) (omega (arith, at_zero i zero_point)) (omega (arith, at_zero i zero_point)))
        ])

-- ---- shards

-- The word of a codeword at a place is the polynomial's value at the point of the place.
codeword_word : {rate : Rate} {k r : ℕ} (x : ℕ) {message : List ℕ} (recovery : List ℕ) {p : List ℕ}
    → Codes rate k r message p
    → ((i : ℕ) → i < r → slice_index recovery i ≡ value p (recovery_row (frame_of rate k r) i))
    → length message ≡ k → x < k + r → value p (point (frame_of rate k r) k x) ≡ slice_index (message ++ recovery) x
codeword_word {rate} {k} {r} x {message} recovery {p} codes at size hx =
    elim (point_cases (frame_of rate k r) k r x hx) [
      | inl own ↦ ap (value p) own.1 ∙ codes.originals x own.0
          ∙ sym (get_or_append_left message recovery 0 x (omega (arith, own.0)))
      | inr coded ↦ ap (value p) coded.2 ∙ sym (at (x - k) coded.1)
          ∙ sym (get_or-append_right message recovery k x 0 size coded.0)
    ]

-- The polynomial's value at the point of a place is the column of the shard at this place.
codeword_column : {rate : Rate} {k r : ℕ} (j x : ℕ) (message recovery : List Shard) {p : List ℕ}
    → Codes rate k r (columns j message) p
    → ((i : ℕ) → i < r → slice_index (columns j recovery) i ≡ value p (recovery_row (frame_of rate k r) i))
    → length message ≡ k → x < k + r
    → value p (point (frame_of rate k r) k x) ≡ column j (shard_at (message ++ recovery) x)
codeword_column j x message recovery codes at size hx =
    codeword_word x (columns j recovery) codes at
    (length-map message (column j) ∙ size) hx
    ∙ ap (λ (ws : List ℕ). slice_index ws x) (sym (map-append (column j) message recovery))
    ∙ columns-at j (message ++ recovery) x

-- Messages whose codewords agree at k places are equal.
pub fixed_by_places : (c : Configuration) (one other one_recovery other_recovery : List Shard) (place : ℕ → ℕ)
    → supports c.rate c.original_count c.recovery_count ≡ true → c.shard_bytes % 2 ≡ 0
    → AreShards c.original_count c.shard_bytes one → AreShards c.original_count c.shard_bytes other
    → AreRecovery c one one_recovery → AreRecovery c other other_recovery
    → ArePlaces c.original_count (c.original_count + c.recovery_count) place
    → ((i : ℕ) → i < c.original_count
    → shard_at (one ++ one_recovery) (place i) ≡ shard_at (other ++ other_recovery) (place i)) → one ≡ other
fixed_by_places c one other one_recovery other_recovery place is even a b recovery_a recovery_b are same =
    shards_from_columns a b even
    (λ i j hi hj. in_column i j hi (recovery_a.words j hj) (recovery_b.words j hj))
  where
    in_column : (i j : ℕ) → i < c.original_count
        → AreRecoveryWords c.rate c.original_count c.recovery_count (columns j one) (columns j one_recovery)
        → AreRecoveryWords c.rate c.original_count c.recovery_count (columns j other) (columns j other_recovery)
        → slice_index (columns j one) i ≡ slice_index (columns j other) i
    in_column i j hi (p, codes_p, at_p) (o, codes_o, at_o) =
        sym (codes_p.originals i hi)
        ∙ ap (λ (q : List ℕ). value q (original_row (frame_of c.rate c.original_count c.recovery_count) i))
        (fixed_by_points place is codes_p codes_o are
        (λ n hn.
        codeword_column j (place n) one one_recovery codes_p at_p a.length_is
        (are.below n hn)
        ∙ ap (column j) (same n hn)
        ∙ sym (codeword_column j
        (place n) other other_recovery codes_o at_o b.length_is (are.below n hn))))
        ∙ codes_o.originals i hi

-- ---- places of given shards

-- The indexes below n that have a shard, as places.
pub places_given : (n : ℕ) (given : Shards) → (place : ℕ → ℕ) × ArePlaces (count_below n given) n place
    × ((i : ℕ) → i < count_below n given → is_some (given (place i)) ≡ true)
places_given zero given = (
  λ i. i,
  record {
    below = λ i h. absurd (let no : ⊥ = omega (arith, h, count_below-zero given) in no);
    once = λ i j h k e. absurd (let no : ⊥ = omega (arith, h, count_below-zero given) in no);
  },
  λ i h. absurd (let no : ⊥ = omega (arith, h, count_below-zero given) in no),
)
places_given (suc n) given = with_last (places_given n given) (is_some (given n)) refl
  where
    with_last : (place : ℕ → ℕ) × ArePlaces (count_below n given) n place
        × ((i : ℕ) → i < count_below n given → is_some (given (place i)) ≡ true)
        → (b : Bool) → is_some (given n) ≡ b
        → (place : ℕ → ℕ) × ArePlaces (count_below (suc n) given) (suc n) place
        × ((i : ℕ) → i < count_below (suc n) given → is_some (given (place i)) ≡ true)
    with_last (place, are, some) false e =
        let count : count_below (suc n) given ≡ count_below n given =
        count_below-suc n given ∙ ap (λ (b : Bool). count_below n given + cond b 1 0) e
        ∙ add-zero (count_below n given) in (
          place,
          record {
            below = λ i h.
                (let b = are.below i (omega arith) in omega arith);
            once = λ i j h k.
                are.once i j (omega arith) (omega arith);
          },
          λ i h. some i (omega arith),
        )
    with_last (place, are, some) true e =
        let m : ℕ = count_below n given in
        let count : count_below (suc n) given ≡ count_below n given + 1 =
        count_below-suc n given ∙ ap (λ (b : Bool). count_below n given + cond b 1 0) e in
        let first : (i : ℕ) → i < count_below n given → below_or m place (λ i. n) i ≡ place i = λ i h.
        below_or-first m place (λ i. n) i h in
        let last : (i : ℕ) → count_below n given ≤ i → below_or m place (λ i. n) i ≡ n = λ i h.
        below_or-then m place (λ i. n) i h in (
          below_or m place (λ i. n),
          record {
            below = λ i h. elim (cases_lt i m) [
              | inl few ↦ (let b = are.below i few in omega (arith, first i few))
              | inr end ↦
                  omega (arith, last i end)
            ];
            once = λ i j h k same. elim (cases_lt i m) [
              | inl few ↦ elim (cases_lt j m) [
                | inl more ↦ are.once i j few more (sym (first i few) ∙ same ∙ first j more)
                | inr end ↦ (let b = are.below i few in absurd (omega (arith, first i few, last j end)))
              ]
              | inr end ↦ elim (cases_lt j m) [
                | inl more ↦ (let b = are.below j more in absurd (omega (arith, first j more, last i end)))
                | inr both ↦ omega arith
              ]
            ];
          },
          λ i h. elim (cases_lt i m) [
            | inl few ↦ ap (λ x. is_some (given x)) (first i few) ∙ some i few
            | inr end ↦ ap (λ x. is_some (given x)) (last i end) ∙ e
          ],
        )

-- The given shards, by their place in the codeword.
pub by_place : ℕ → Shards → Shards → Shards
by_place k originals recovery = below_or k originals recovery

pub count-by_place : (k r : ℕ) (originals recovery : Shards)
    → count_below (k + r) (by_place k originals recovery) ≡ count_below k originals + count_below r recovery
unfolding by_place
count-by_place k zero originals recovery =
    search (rules, below_or, add-zero, count_below-same, below_or-first, count_below-zero)
count-by_place k (suc r) originals recovery =
    let rest : count_below (k + r) (below_or k originals recovery) ≡ count_below k originals + count_below r recovery =
    count-by_place k r originals recovery in
    let here : below_or k originals recovery (k + r) ≡ recovery r =
    below_or-then k originals recovery (k + r) (omega arith) ∙ ap recovery (omega arith) in
    let last : count_below (suc (k + r)) (below_or k originals recovery)
    ≡ count_below (k + r) (below_or k originals recovery) + cond (is_some (recovery r)) 1 0
    = count_below-suc (k + r) (below_or k originals recovery)
    ∙ ap (λ (o : Option Shard). count_below (k + r) (below_or k originals recovery) + cond (is_some o) 1 0) here in
    ap (λ n. count_below n (below_or k originals recovery)) (add-suc k r) ∙ last
    ∙ (let more = count_below-suc r recovery in omega arith)

-- A given shard is at its place in the codeword of each message that agrees.
pub codeword_given : {c : Configuration} {originals recovery : Shards} {message : List Shard}
    (a : Agrees c originals recovery message) (x : ℕ) (shard : Shard)
    → by_place c.original_count originals recovery x ≡ Some shard → shard_at (message ++ a.coded.0) x ≡ shard
unfolding by_place
codeword_given a x shard e =
    search (rules, cases_lt, get_or_append_left, below_or-first, get_or-append_right, below_or-then)
