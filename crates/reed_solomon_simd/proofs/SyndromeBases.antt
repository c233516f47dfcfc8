-- A base of syndromes: all received originals, and the first received recovery shards, as many as originals are
-- missing.
use Rattle.std.proofs.Common.{◌≡◌, ◌⊎◌, ℕ, zero, suc, ◌+◌, ◌<◌, ◌≤◌, Bool, true, false, List, length, take, sym, ap}
use Rattle.std.proofs.Common.{ap₂, ◌∙◌, inl, inr, arith, zero-add}
use Rattle.std.specs.Prelude.{is_some}
use Rattle.std.proofs.lemmas.Bool.{cases_Bool, cases_lt}
use Rattle.std.proofs.lemmas.List.{get_or-take, get_or_past, length-take}
use Rattle.rs_field.specs.code.Counts.{default_rate}
use Rattle.rs_field.specs.code.Decoder.{DecoderState, IsDecoder, originals_given, recovery_given}
use Rattle.rs_field.specs.code.DirectLaws.{shard_in_row}
use Rattle.rs_field.specs.code.Frame.{row_count, original_row, recovery_row, frame_at}
use Rattle.rs_field.specs.declared.code.frame.Frame.{Frame}
use Rattle.rs_field.specs.rows.MarkedRows.{is_marked}
use Rattle.rs_field.proofs.code_lemmas.Frame.{HasDistinctRows}
use Rattle.rs_field.proofs.code_lemmas.GivenRows.{shard_in_row-own, shard_in_row-coded}
use Rattle.rs_rate.specs.rows.Marks.{how_many}
use Rattle.rs_rate.proofs.rows_lemmas.HowMany.{how_many-zero, how_many-none, how_many-same, count_below-many}
use Rattle.rs_rate.proofs.rows_lemmas.HowMany.{many_in_frame}
use Rattle.reed_solomon_simd.specs.Base.{MarkBase}
use Rattle.reed_solomon_simd.specs.Syndromes.{MarksRecovery, AddsOriginals}
use Rattle.reed_solomon_simd.proofs.BaseLemmas.{decoder_frame}
use Rattle.reed_solomon_simd.proofs.BaseMarks.{base-count}

-- If no number has a property, none is counted.
how_many-never : (n : ℕ) (has : ℕ → Bool) → ((i : ℕ) → i < n → has i ≡ false) → how_many n has ≡ 0
how_many-never zero has none = how_many-zero has
how_many-never (suc n) has none =
    how_many-none n has (none n (omega arith)) ∙ how_many-never n has (λ i h. none i (omega (arith, h)))

-- Up to the last of the first marks, the same rows are marked.
pub first-same : (marks : List Bool) (n x : ℕ) → x < length (take n marks)
    → is_marked (take n marks) x ≡ is_marked marks x
first-same marks n x inside = get_or-take n marks x false (omega (arith, inside, length-take n marks))

-- A row that is marked by the first marks is marked.
first-marked : (marks : List Bool) (n x : ℕ) → is_marked (take n marks) x ≡ true → is_marked marks x ≡ true
first-marked marks n x is = elim (cases_lt x (length (take n marks))) [
  | inl inside ↦ sym (first-same marks n x inside) ∙ is
  | inr past ↦
      let not : is_marked (take n marks) x ≡ false = get_or_past (take n marks) x false past in
      absurd (let no : ⊥ = cc (is, not) in no)
]

-- Only rows of recovery shards are marked.
abbrev pub OnlyCoded : Frame → ℕ → List Bool → Type 0
OnlyCoded frame r marks =
    (x : ℕ) → is_marked marks x ≡ true → (i : ℕ) × (i < r) × (x ≡ recovery_row frame i)

pub first-only : (frame : Frame) (r : ℕ) (marks : List Bool) (n : ℕ) → OnlyCoded frame r marks
    → OnlyCoded frame r (take n marks)
first-only frame r marks n only x marked = only x (first-marked marks n x marked)

module _ (frame : Frame) (k r : ℕ) (f : HasDistinctRows frame k r) (marks : List Bool)
    (only : OnlyCoded frame r marks) where
  -- The row of an original has no mark.
  own-unmarked : (i : ℕ) → i < k → is_marked marks (original_row frame i) ≡ false
  own-unmarked i hi = elim (cases_Bool (is_marked marks (original_row frame i))) [
    | inl marked ↦
        let (j, hj, at) = only (original_row frame i) marked in
        absurd (elim f.order [
          | inl low ↦ let no : ⊥ = omega (arith, low.1, f.zeros.0, f.follow, hi, hj, at) in no
          | inr high ↦ let no : ⊥ = omega (arith, high.0, high.1, hi, hj, at) in no
        ])
    | inr not ↦ not
  ]

  -- A row that is not that of a recovery shard has no mark.
  coded-unmarked : (p : ℕ) → (p < frame.recovery_from) ⊎ (recovery_row frame r ≤ p) → is_marked marks p ≡ false
  coded-unmarked p apart = elim (cases_Bool (is_marked marks p)) [
    | inl marked ↦
        let (i, hi, at) = only p marked in
        absurd (elim apart [
          | inl before ↦ let no : ⊥ = omega (arith, before, at) in no
          | inr after ↦ let no : ⊥ = omega (arith, after, hi, at) in no
        ])
    | inr not ↦ not
  ]

  -- The marked rows are those of recovery shards.
  pub rows-coded : how_many (row_count frame) (is_marked marks)
      ≡ how_many r (λ i. is_marked marks (recovery_row frame i))
  rows-coded =
      many_in_frame frame k r f (is_marked marks) (λ p not_own not_coded. coded-unmarked p not_coded)
      ∙ ap (λ n. n + how_many r (λ i. is_marked marks (recovery_row frame i)))
      (how_many-never k (λ i. is_marked marks (original_row frame i)) own-unmarked)
      ∙ zero-add (how_many r (λ i. is_marked marks (recovery_row frame i)))

  module _ (all : List Bool) (own : (x : ℕ) → is_marked all x ≡ true → is_marked marks x ≡ false
      → (i : ℕ) × (i < k) × (x ≡ original_row frame i)) where
    -- A row that is not that of a shard has no mark.
    others-unmarked : (p : ℕ) → (p < frame.originals_from) ⊎ (original_row frame k ≤ p)
        → (p < frame.recovery_from) ⊎ (recovery_row frame r ≤ p) → is_marked all p ≡ false
    others-unmarked p not_own not_coded = elim (cases_Bool (is_marked all p)) [
      | inl marked ↦
          let (i, hi, at) = own p marked (coded-unmarked p not_coded) in
          absurd (elim not_own [
            | inl before ↦ let no : ⊥ = omega (arith, before, at) in no
            | inr after ↦ let no : ⊥ = omega (arith, after, hi, at) in no
          ])
      | inr not ↦ not
    ]

    -- The marked rows are those of originals and those of recovery shards.
    pub rows-both : how_many (row_count frame) (is_marked all)
        ≡ how_many k (λ i. is_marked all (original_row frame i))
        + how_many r (λ i. is_marked all (recovery_row frame i))
    rows-both = many_in_frame frame k r f (is_marked all) others-unmarked

module _ (s : DecoderState) (is : IsDecoder default_rate s) where
  -- As many rows are marked as recovery shards were received.
  pub coded-count : (marks : List Bool) → MarksRecovery s marks
      → how_many (row_count (frame_at s.configuration)) (is_marked marks) ≡ recovery_given s
  coded-count marks exact =
      rows-coded (frame_at s.configuration) s.configuration.original_count s.configuration.recovery_count
      (decoder_frame s is) marks exact.only
      ∙ how_many-same s.configuration.recovery_count (λ i. is_marked marks (recovery_row (frame_at s.configuration) i))
      (λ i. is_some (s.recovery i)) exact.coded
      ∙ count_below-many s.configuration.recovery_count s.recovery

  -- There are at least as many marked rows as missing originals, if enough shards were received.
  pub enough-coded : (marks : List Bool) (missing surplus : ℕ) → MarksRecovery s marks
      → missing + originals_given s ≡ s.configuration.original_count
      → originals_given s + recovery_given s ≡ s.configuration.original_count + surplus
      → missing ≤ how_many (length marks) (is_marked marks)
  enough-coded marks missing surplus exact number enough =
      omega (
        arith,
        number,
        enough,
        ap (λ n. how_many n (is_marked marks)) exact.count,
        coded-count marks exact,
      )

  module _ (received all : List Bool) (n : ℕ) (exact : MarksRecovery s received)
      (adds : AddsOriginals s (take n received) all) where
    pub marks-only : OnlyCoded (frame_at s.configuration) s.configuration.recovery_count (take n received)
    marks-only = first-only (frame_at s.configuration) s.configuration.recovery_count received n exact.only

    -- In each marked row, a shard was received.
    row-received : (x : ℕ) → is_marked all x ≡ true → is_some (shard_in_row s x) ≡ true
    row-received x marked = elim (cases_Bool (is_marked (take n received) x)) [
      | inl coded ↦
          let there = first-marked received n x coded in
          let (i, hi, at) = exact.only x there in
          ap is_some (ap (shard_in_row s) at ∙ shard_in_row-coded s i (decoder_frame s is) hi)
          ∙ sym (exact.coded i hi) ∙ ap (is_marked received) (sym at) ∙ there
      | inr not ↦
          let (i, hi, at) = adds.only x marked not in
          ap is_some (ap (shard_in_row s) at ∙ shard_in_row-own s i hi) ∙ sym (adds.own i hi)
          ∙ ap (is_marked all) (sym at) ∙ marked
    ]

    -- The marked rows are those of the received originals, and the other ones.
    all-count : how_many (row_count (frame_at s.configuration)) (is_marked all)
        ≡ originals_given s + how_many (row_count (frame_at s.configuration)) (is_marked (take n received))
    all-count =
        let k = s.configuration.original_count in
        let r = s.configuration.recovery_count in
        rows-both (frame_at s.configuration) k r (decoder_frame s is) (take n received) marks-only all adds.only
        ∙ ap₂ (λ (a b : ℕ). a + b)
        (how_many-same k (λ i. is_marked all (original_row (frame_at s.configuration) i))
        (λ i. is_some (s.originals i)) adds.own ∙ count_below-many k s.originals)
        (how_many-same r (λ i. is_marked all (recovery_row (frame_at s.configuration) i))
        (λ i. is_marked (take n received) (recovery_row (frame_at s.configuration) i)) adds.coded
        ∙ sym (rows-coded (frame_at s.configuration) k r (decoder_frame s is) (take n received) marks-only))

    -- All received originals and as many recovery shards as originals are missing are a base.
    pub all-base : (missing : ℕ) → missing + originals_given s ≡ s.configuration.original_count
        → how_many (row_count (frame_at s.configuration)) (is_marked (take n received)) ≡ missing → MarkBase s all
    all-base missing number count = record {
      received = row-received;
      enough = base-count s is all row-received ∙ all-count
          ∙ ap (λ (m : ℕ). originals_given s + m) count
          ∙ (let sum : originals_given s + missing ≡ s.configuration.original_count = omega (arith, number) in sum);
    }
