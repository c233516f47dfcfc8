-- One column of a decode at either rate: whether the words of the given shards are values of a polynomial that codes.
use Rattle.std.proofs.Common.{rules, ◌≡◌, ℕ, ◌+◌, ◌-◌, ◌^◌, ◌<◌, ◌≤◌, List, sym, ap, ◌∙◌, arith, inl, inr, pow_mono}
use Rattle.std.specs.Prelude.{Some, None}
use Rattle.rs_field.specs.words.Polynomial.{value}
use Rattle.rs_field.specs.words.Field.{product, power}
use Rattle.rs_field.specs.words.Transform.{forward}
use Rattle.rs_field.specs.words.Locator.{log_sum}
use Rattle.rs_field.specs.words.Derivative.{IsDerivativeAdded}
use Rattle.rs_field.specs.code.Column.{Shard, column}
use Rattle.rs_field.specs.code.Code.{Codes}
use Rattle.rs_field.specs.code.Decoder.{DecoderState, originals_given, recovery_given}
use Rattle.rs_field.specs.code.Frame.{original_row, recovery_row, frame_at}
use Rattle.rs_field.proofs.words_lemmas.ExactCheck.{located_values, AreLocated, Takes, zero_rows, taken_from_zero_rows}
use Rattle.rs_field.proofs.words_lemmas.LocatorProduct.{residue_undone}
use Rattle.rs_field.proofs.words_lemmas.Product.{zero_product}
use Rattle.rs_field.proofs.words_lemmas.Restored.{restored}
use Rattle.rs_field.proofs.words_lemmas.Roots.{value_lt, words_from}
use Rattle.rs_field.proofs.words_lemmas.Total.{product-comm}
use Rattle.rs_field.proofs.code_lemmas.CodedWords.{values_of, values_of-at}
use Rattle.rs_field.proofs.code_lemmas.ErasedCount.{counted}
use Rattle.rs_field.proofs.code_lemmas.Frame.{coefficient_count, zeros_end, framed, unframed}
use Rattle.rs_field.proofs.code_lemmas.GivenRows.{AreGiven, erased_in, words_in, row_count_of, distinct, erasures}
use Rattle.rs_field.proofs.code_lemmas.GivenRows.{given-own, given-coded, given-either, given-zero, erased-given}
use Rattle.rs_field.proofs.code_lemmas.GivenRows.{erased-none, word-given, word-none, cases_given, word_lt}
use Rattle.rs_field.specs.code.DirectLaws.{shard_in_row}

-- A polynomial has the words j of the given shards as values at their points.
pub record TakesGiven (s : DecoderState) (j : ℕ) (polynomial : List ℕ) : Type 0 where
  pub own : (i : ℕ) (shard : Shard) → i < s.configuration.original_count → s.originals i ≡ Some shard
      → value polynomial (original_row (frame_at s.configuration) i) ≡ column j shard
  pub coded : (i : ℕ) (shard : Shard) → i < s.configuration.recovery_count → s.recovery i ≡ Some shard
      → value polynomial (recovery_row (frame_at s.configuration) i) ≡ column j shard

-- A polynomial codes some words, and has the words j of the given shards as values.
abbrev pub IsTaken : DecoderState → ℕ → List ℕ → Type 0
IsTaken s j p =
    (message : List ℕ)
    × Codes s.configuration.rate s.configuration.original_count s.configuration.recovery_count message p
    × TakesGiven s j p

-- The rows of a column in a decode: the located words, and the coefficients of the polynomial whose values they are. At
-- a given shard the located word is the word times the power of the locator; without a given shard it is 0.
pub record IsColumnOf (s : DecoderState) (j : ℕ) (located coefficients : ℕ → ℕ) : Type 0 where
  pub given : (x : ℕ) (shard : Shard) → x < row_count_of s → shard_in_row s x ≡ Some shard
      → located x ≡ product (column j shard) (power (log_sum (row_count_of s) (erased_in s) x))
  pub none : (x : ℕ) → x < row_count_of s → shard_in_row s x ≡ None → located x ≡ 0
  pub are_words : (x : ℕ) → x < row_count_of s → coefficients x < 2 ^ 16
  pub back : (x : ℕ) → x < row_count_of s → forward (row_count_of s) 0 coefficients x ≡ located x

module _ {s : DecoderState} (g : AreGiven s) {j : ℕ} where
  -- If a polynomial of the frame has the given words as values, it has them at all rows that are not erased.
  taken_in_frame : (q : List ℕ) → TakesGiven s j q
      → ((x : ℕ) → (frame_at s.configuration).zeros_from ≤ x → x < zeros_end (frame_at s.configuration)
      → value q x ≡ 0)
      → (x : ℕ) → x < row_count_of s → erased_in s x ≡ 0 → value q x ≡ words_in s j x
  taken_in_frame q takes zeros x hx is = elim (cases_given s x) [
    | inl some ↦
        elim (given-either g x some.0 some.1) [
          | inl own ↦ ap (value q) own.2 ∙ takes.own own.0 some.0 own.1 own.3
          | inr coded ↦ ap (value q) coded.2 ∙ takes.coded coded.0 some.0 coded.1 coded.3
        ] ∙ sym (word-given s j x some.0 some.1)
    | inr none ↦
        let zero = erased-none g x hx none is in zeros x zero.0 zero.1 ∙ sym (word-none s j x none)
  ]

  -- If a polynomial codes and has the given words as values, a polynomial of the frame has the words at all rows that
  -- are not erased, and the same values at all rows.
  pub taken_from : (p : List ℕ) → IsTaken s j p
      → (q : List ℕ)
      × Takes (row_count_of s) (coefficient_count (frame_at s.configuration)) (erased_in s) (words_in s j) q
      × ((x : ℕ) → x < row_count_of s → value q x ≡ value p x)
  taken_from p (message, codes, takes) =
      let c = s.configuration in
      let f = distinct g in
      let (q, in_frame, same) = framed f codes in
      let takes_q : TakesGiven s j q = record {
        own = λ i shard hi is.
            same (original_row (frame_at c) i) (omega (arith, f.originals, hi)) ∙ takes.own i shard hi is;
        coded = λ i shard hi is.
            same (recovery_row (frame_at c) i) (omega (arith, f.recovery, hi)) ∙ takes.coded i shard hi is;
      } in (
        q,
        record {
          degree = in_frame.degree;
          coefficients = in_frame.coefficients;
          given = taken_in_frame q takes_q in_frame.zeros;
        },
        same,
      )

  -- A polynomial of the frame that has the words at all rows that are not erased codes its values at the points of the
  -- originals, and has the given words as values.
  taken_by : (q : List ℕ)
      → Takes (row_count_of s) (coefficient_count (frame_at s.configuration)) (erased_in s) (words_in s j) q
      → (p : List ℕ) × IsTaken s j p
  taken_by q takes =
      let c = s.configuration in
      let f = distinct g in
      let message = values_of c.original_count (λ i. value q (original_row (frame_at c) i)) in
      let (p, codes, same) = unframed c.rate f
      (values_of c.original_count (λ i. value q (original_row (frame_at c) i))) q (record {
        degree = takes.degree;
        coefficients = takes.coefficients;
        originals = λ i hi.
            sym (values_of-at c.original_count (λ n. value q (original_row (frame_at c) n)) i hi);
        zeros = λ x above below.
            takes.given x (omega (arith, f.zeros, below)) ((erasures g).known x above below)
            ∙ word-none s j x (given-zero g x above below);
      }) in (
        p,
        (
          message,
          codes,
          record {
            own = λ i shard hi is.
                at_given p same (original_row (frame_at c) i) shard (omega (arith, f.originals, hi))
                (given-own s i shard hi is);
            coded = λ i shard hi is.
                at_given p same (recovery_row (frame_at c) i) shard (omega (arith, f.recovery, hi))
                (given-coded g i shard hi is);
          },
        ),
      )
    where
      at_given : (p : List ℕ) → ((x : ℕ) → x < row_count_of s → value p x ≡ value q x) → (x : ℕ) (shard : Shard)
          → x < row_count_of s → shard_in_row s x ≡ Some shard → value p x ≡ column j shard
      at_given p same x shard hx is =
          same x hx ∙ takes.given x hx (erased-given s x shard is) ∙ word-given s j x shard is

  module _ {located rows : ℕ → ℕ} (h : IsColumnOf s j located rows) where
    are_located : AreLocated (row_count_of s) (erased_in s) (words_in s j) located
    are_located = record {
      erased = λ x hx one. elim (cases_given s x) [
        | inl some ↦ let none = erased-given s x some.0 some.1 in absurd (omega (arith, one, none))
        | inr none ↦ h.none x hx none
      ];
      given = λ x hx none. elim (cases_given s x) [
        | inl some ↦ h.given x some.0 hx some.1
            ∙ ap (λ w. product w (power (log_sum (row_count_of s) (erased_in s) x)))
            (sym (word-given s j x some.0 some.1))
        | inr empty ↦ h.none x hx empty
            ∙ sym (ap (λ w. product w (power (log_sum (row_count_of s) (erased_in s) x))) (word-none s j x empty)
            ∙ zero_product (power (log_sum (row_count_of s) (erased_in s) x)))
      ];
    }

    -- If the last rows are zero, as many as there are surplus shards, some polynomial that codes has the given words as
    -- values.
    pub some_message : (t : ℕ) → originals_given s + recovery_given s ≡ s.configuration.original_count + t
        → ((i : ℕ) → row_count_of s ≤ i + t → i < row_count_of s → rows i ≡ 0)
        → (p : List ℕ) × IsTaken s j p
    some_message t count none =
        let (q, takes) = taken_from_zero_rows (coefficient_count (frame_at s.configuration)) t
        (pow_mono (distinct g).few) (erasures g).are_marks
        (omega (arith, counted g, count)) are_located (λ x hx _. word_lt g j x) h.back none in
        taken_by q takes

    module _ (p : List ℕ) (taken : IsTaken s j p) where
      -- The last rows are zero, as many as there are surplus shards.
      pub surplus_rows : (t : ℕ) → originals_given s + recovery_given s ≡ s.configuration.original_count + t
          → (i : ℕ) → row_count_of s ≤ i + t → i < row_count_of s → rows i ≡ 0
      surplus_rows t count =
          let (q, takes, same) = taken_from p taken in
          zero_rows (coefficient_count (frame_at s.configuration)) t (pow_mono (distinct g).few) (erasures g).are_marks
          (omega (arith, counted g, count)) are_located
          h.are_words h.back (q, takes)

      module _ (added : ℕ → ℕ) (x l : ℕ)
          (enough : s.configuration.original_count ≤ originals_given s + recovery_given s)
          (step : IsDerivativeAdded (row_count_of s) rows added) (hx : x < row_count_of s)
          (one : erased_in s x ≡ 1) where
        -- After the derivative step the value at an erased row is the wanted word times the locator's power.
        restored_product : forward (row_count_of s) 0 added x
            ≡ product (power (log_sum (row_count_of s) (erased_in s) x)) (value p x)
        restored_product =
            let (q, takes, same) = taken_from p taken in
            let few = pow_mono (distinct g).few in
            restored (frame_at s.configuration).exponent rows added q (distinct g).few
            takes.coefficients (erasures g).are_marks (omega (arith, takes.degree, counted g, enough))
            (λ i hi. h.back i hi
            ∙ located_values few (erasures g).are_marks are_located takes i hi) step x hx one
            ∙ ap (product (power (log_sum (row_count_of s) (erased_in s) x))) (same x hx)

        -- A power for 65535 minus any residue of the locator, times this value, is the wanted word.
        pub restored_word : l ≤ 65535 → power l ≡ power (log_sum (row_count_of s) (erased_in s) x)
            → product (forward (row_count_of s) 0 added x) (power (65535 - l)) ≡ value p x
        restored_word hl same = search (rules, restored_product, product-comm, residue_undone, value_lt, words_from)
