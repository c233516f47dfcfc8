-- The shards that were given to a decoder, by their rows, and the words of a column in these rows.
use Rattle.std.proofs.Common.{rules, ◌≡◌, ℕ, ◌+◌, ◌-◌, ◌<◌, ◌≤◌, ◌⊎◌, true, cond, refl, sym, ap, ◌∙◌, subst, arith, inl}
use Rattle.std.proofs.Common.{inr}
use Rattle.std.specs.Prelude.{Option, Some, None, is_some}
use Rattle.std.proofs.lemmas.Bool.{cases_lt}
use Rattle.std.proofs.lemmas.Option.{none-some}
use Rattle.std.proofs.lemmas.Grind.{common_steps}
use Rattle.rs_field.specs.code.Column.{Shard, IsShard, column}
use Rattle.rs_field.specs.code.Configuration.{Configuration}
use Rattle.rs_field.specs.code.Counts.{supports}
use Rattle.rs_field.specs.code.Decoder.{DecoderState}
use Rattle.rs_field.specs.code.DirectLaws.{entry_in, given_at, shard_in_row, word_of, word_at, mark_at}
use Rattle.rs_field.specs.code.Frame.{frame_at, row_count, original_row, recovery_row}
use Rattle.rs_field.specs.code.Given.{Shards, AreWithin}
use Rattle.rs_field.specs.declared.code.frame.Frame.{Frame}
use Rattle.rs_field.proofs.words_lemmas.LocatorProduct.{AreMarks}
use Rattle.rs_field.proofs.code_lemmas.Columns.{column_lt}
use Rattle.rs_field.proofs.code_lemmas.Frame.{HasDistinctRows, zeros_end}
use Rattle.rs_field.proofs.code_lemmas.RateFrames.{distinct_rows}

-- The given shards have indexes below a count, and all have one size.
pub record AreSized (count size : ℕ) (given : Shards) : Type 0 where
  pub each : (i : ℕ) (shard : Shard) → given i ≡ Some shard → (i < count) × IsShard size shard

-- Given shards that are within bounds have indexes below the count.
pub sized-within : {count size : ℕ} {given : Shards} → AreWithin count size given → AreSized count size given
sized-within {count} within = search rules

-- The shards of a decoder for supported counts: all have the size, and their indexes are below the counts.
pub record AreGiven (s : DecoderState) : Type 0 where
  pub supported : supports s.configuration.rate s.configuration.original_count s.configuration.recovery_count ≡ true
  pub own_sized : AreSized s.configuration.original_count s.configuration.shard_bytes s.originals
  pub coded_sized : AreSized s.configuration.recovery_count s.configuration.shard_bytes s.recovery

-- The state of a decoder with these shards.
abbrev pub state_with : Configuration → Shards → Shards → DecoderState
state_with c originals recovery = record { configuration = c; originals = originals; recovery = recovery }

-- Given shards that are within bounds are shards of a decoder.
pub given_within : (c : Configuration) (originals recovery : Shards)
    → supports c.rate c.original_count c.recovery_count ≡ true
    → AreWithin c.original_count c.shard_bytes originals → AreWithin c.recovery_count c.shard_bytes recovery
    → AreGiven (state_with c originals recovery)
given_within c originals recovery supported own coded = record {
  supported = supported;
  own_sized = sized-within own;
  coded_sized = sized-within coded;
}

-- ---- the rows of a frame

-- A number is the sum of `from` and an index below n, or it is outside.
pub index_or_outside : (from n x : ℕ) → ((i : ℕ) × (i < n) × (x ≡ from + i)) ⊎ ((x < from) ⊎ (from + n ≤ x))
index_or_outside from n x = elim (cases_lt x from) [
  | inl below ↦ inr (inl below)
  | inr above ↦ elim (cases_lt x (from + n)) [
    | inl within ↦ inl (x - from, omega (arith, above, within), omega (arith, above))
    | inr past ↦ inr (inr past)
  ]
]

-- A row is that of an original, or that of a recovery shard, or neither.
pub kind_of_row : (frame : Frame) (k r x : ℕ)
    → ((i : ℕ) × (i < k) × (x ≡ original_row frame i))
    ⊎ (((i : ℕ) × (i < r) × (x ≡ recovery_row frame i))
    ⊎ (((x < frame.originals_from) ⊎ (original_row frame k ≤ x))
    × ((x < frame.recovery_from) ⊎ (recovery_row frame r ≤ x))))
kind_of_row frame k r x =
    elim (index_or_outside frame.originals_from k x) [
      | inl own ↦ inl own
      | inr not_own ↦ elim (index_or_outside frame.recovery_from r x) [
        | inl coded ↦ inr (inl coded)
        | inr not_coded ↦ inr (inr (not_own, not_coded))
      ]
    ]

-- The row of a recovery shard is not that of an original.
pub rows_apart : (frame : Frame) (k r i : ℕ) → HasDistinctRows frame k r → i < r
    → (recovery_row frame i < frame.originals_from) ⊎ (original_row frame k ≤ recovery_row frame i)
rows_apart frame k r i f inside = search rules

pub entry_in-at : (from n i : ℕ) (given : Shards) (other : Option Shard) → i < n
    → entry_in from n given other (from + i) ≡ given i
unfolding entry_in
entry_in-at from n i given other hi = grind (arith, common_steps)

pub entry_in-other : (from n x : ℕ) (given : Shards) (other : Option Shard) → (x < from) ⊎ (from + n ≤ x)
    → entry_in from n given other x ≡ other
unfolding entry_in
entry_in-other from n x given other outside = grind (arith, common_steps)

-- ---- the rows of a decoder

-- 1 if a row is erased, else 0.
abbrev pub erased_in : DecoderState → ℕ → ℕ
erased_in s x = mark_at (frame_at s.configuration) s.configuration.original_count s.configuration.recovery_count
    s.originals s.recovery x

-- Word j of the given shard in a row, or 0 if there is none.
abbrev pub words_in : DecoderState → ℕ → ℕ → ℕ
words_in s j x = word_at (frame_at s.configuration) s.configuration.original_count s.configuration.recovery_count
    s.originals s.recovery j x

-- The number of rows of a decoder.
abbrev pub row_count_of : DecoderState → ℕ
row_count_of s = row_count (frame_at s.configuration)

-- There is a shard in a row, or none.
pub cases_given : (s : DecoderState) (x : ℕ)
    → ((shard : Shard) × (shard_in_row s x ≡ Some shard)) ⊎ (shard_in_row s x ≡ None)
cases_given s x = by_entry (shard_in_row s x) refl
  where
    by_entry : (o : Option Shard) → shard_in_row s x ≡ o
        → ((shard : Shard) × (shard_in_row s x ≡ Some shard)) ⊎ (shard_in_row s x ≡ None)
    by_entry None is = inr is
    by_entry (Some shard) is = inl (shard, is)

module _ (s : DecoderState) (j x : ℕ) where
  pub word-given : (shard : Shard) → shard_in_row s x ≡ Some shard → words_in s j x ≡ column j shard
  unfolding word_at word_of
  word-given shard is = ap (word_of j) is

  pub word-none : shard_in_row s x ≡ None → words_in s j x ≡ 0
  unfolding word_at word_of
  word-none is = ap (word_of j) is

module _ (s : DecoderState) where
  pub shard_in_row-own : (i : ℕ) → i < s.configuration.original_count
      → shard_in_row s (original_row (frame_at s.configuration) i) ≡ s.originals i
  unfolding given_at
  shard_in_row-own i hi =
      entry_in-at (frame_at s.configuration).originals_from s.configuration.original_count i s.originals _ hi

  pub shard_in_row-coded : (i : ℕ)
      → HasDistinctRows (frame_at s.configuration) s.configuration.original_count s.configuration.recovery_count
      → i < s.configuration.recovery_count
      → shard_in_row s (recovery_row (frame_at s.configuration) i) ≡ s.recovery i
  unfolding given_at
  shard_in_row-coded i f hi = search (rules, entry_in-other, entry_in-at)

  pub shard_in_row-other : (x : ℕ)
      → (x < (frame_at s.configuration).originals_from)
      ⊎ (original_row (frame_at s.configuration) s.configuration.original_count ≤ x)
      → (x < (frame_at s.configuration).recovery_from)
      ⊎ (recovery_row (frame_at s.configuration) s.configuration.recovery_count ≤ x)
      → shard_in_row s x ≡ None
  unfolding given_at
  shard_in_row-other x not_own not_coded =
      let at = frame_at s.configuration in
      entry_in-other at.originals_from s.configuration.original_count x s.originals _ not_own
      ∙ entry_in-other at.recovery_from s.configuration.recovery_count x s.recovery None not_coded

  -- A given original is in its row.
  pub given-own : (i : ℕ) (shard : Shard) → i < s.configuration.original_count → s.originals i ≡ Some shard
      → shard_in_row s (original_row (frame_at s.configuration) i) ≡ Some shard
  given-own i shard hi is = shard_in_row-own i hi ∙ is

  -- A row with a given shard is not erased.
  pub erased-given : (x : ℕ) (shard : Shard) → shard_in_row s x ≡ Some shard → erased_in s x ≡ 0
  unfolding mark_at
  erased-given x shard is = grind (arith, common_steps)

  erased_in-known : (x : ℕ) → (frame_at s.configuration).zeros_from ≤ x → x < (frame_at s.configuration).zeros_to
      → erased_in s x ≡ 0
  unfolding mark_at
  erased_in-known x above below = grind (arith, common_steps)

  erased_in-row : (x : ℕ) (o : Option Shard)
      → (x < (frame_at s.configuration).zeros_from) ⊎ ((frame_at s.configuration).zeros_to ≤ x)
      → shard_in_row s x ≡ o → erased_in s x ≡ cond (is_some o) 0 1
  unfolding mark_at
  erased_in-row x o outside is = grind (arith, common_steps)

-- The erased rows of a decoder: each row is erased except the zero points and the rows of given shards.
pub record AreErasures (s : DecoderState) : Type 0 where
  pub are_marks : AreMarks (row_count_of s) (erased_in s)
  pub own : (i : ℕ) → i < s.configuration.original_count
      → erased_in s (original_row (frame_at s.configuration) i) ≡ cond (is_some (s.originals i)) 0 1
  pub coded : (i : ℕ) → i < s.configuration.recovery_count
      → erased_in s (recovery_row (frame_at s.configuration) i) ≡ cond (is_some (s.recovery i)) 0 1
  pub known : (x : ℕ) → (frame_at s.configuration).zeros_from ≤ x → x < zeros_end (frame_at s.configuration)
      → erased_in s x ≡ 0
  pub other : (x : ℕ) → x < row_count_of s
      → (x < (frame_at s.configuration).originals_from)
      ⊎ (original_row (frame_at s.configuration) s.configuration.original_count ≤ x)
      → (x < (frame_at s.configuration).recovery_from)
      ⊎ (recovery_row (frame_at s.configuration) s.configuration.recovery_count ≤ x)
      → (x < (frame_at s.configuration).zeros_from) ⊎ (zeros_end (frame_at s.configuration) ≤ x) → erased_in s x ≡ 1

-- Below the last row, the zero points among the rows are all zero points.
zeros_among : (frame : Frame) (k r x : ℕ) → HasDistinctRows frame k r
    → (x < zeros_end frame → x < frame.zeros_to) × (x < row_count frame → zeros_end frame ≤ x → frame.zeros_to ≤ x)
zeros_among frame k r x f = search rules

module _ {s : DecoderState} (g : AreGiven s) where
  pub distinct : HasDistinctRows (frame_at s.configuration) s.configuration.original_count
      s.configuration.recovery_count
  distinct = distinct_rows s.configuration.rate s.configuration.original_count s.configuration.recovery_count
      g.supported

  among : (x : ℕ) → (x < zeros_end (frame_at s.configuration) → x < (frame_at s.configuration).zeros_to)
      × (x < row_count_of s → zeros_end (frame_at s.configuration) ≤ x → (frame_at s.configuration).zeros_to ≤ x)
  among x = zeros_among _ _ _ x distinct

  pub erasures : AreErasures s
  erasures =
      search (
        rules,
        distinct,
        erased_in-row,
        shard_in_row-own,
        shard_in_row-coded,
        erased_in-known,
        shard_in_row-other,
      )

  -- A given recovery shard is in its row.
  pub given-coded : (i : ℕ) (shard : Shard) → i < s.configuration.recovery_count → s.recovery i ≡ Some shard
      → shard_in_row s (recovery_row (frame_at s.configuration) i) ≡ Some shard
  given-coded i shard hi is = shard_in_row-coded s i distinct hi ∙ is

  -- A shard in a row is a given original or a given recovery shard.
  pub given-either : (x : ℕ) (shard : Shard) → shard_in_row s x ≡ Some shard
      → ((i : ℕ) × (i < s.configuration.original_count) × (x ≡ original_row (frame_at s.configuration) i)
      × (s.originals i ≡ Some shard))
      ⊎ ((i : ℕ) × (i < s.configuration.recovery_count) × (x ≡ recovery_row (frame_at s.configuration) i)
      × (s.recovery i ≡ Some shard))
  given-either x shard is =
      let c = s.configuration in
      elim (kind_of_row (frame_at s.configuration) c.original_count c.recovery_count x) [
        | inl own ↦ inl (
          own.0,
          own.1,
          own.2,
          sym (ap (shard_in_row s) own.2 ∙ shard_in_row-own s own.0 own.1) ∙ is,
        )
        | inr rest ↦ elim rest [
          | inl coded ↦ inr (
            coded.0,
            coded.1,
            coded.2,
            sym (ap (shard_in_row s) coded.2 ∙ shard_in_row-coded s coded.0 distinct coded.1) ∙ is,
          )
          | inr neither ↦ absurd (none-some shard (sym (shard_in_row-other s x neither.0 neither.1) ∙ is))
        ]
      ]

  -- A shard is given in one of the rows of the frame.
  pub given-below : (x : ℕ) (shard : Shard) → shard_in_row s x ≡ Some shard → x < row_count_of s
  given-below x shard is = search (rules, distinct, given-either)

  -- No shard is given in the row of a zero point.
  pub given-zero : (x : ℕ) → (frame_at s.configuration).zeros_from ≤ x → x < zeros_end (frame_at s.configuration)
      → shard_in_row s x ≡ None
  given-zero x above below = search (rules, distinct, shard_in_row-other)

  -- A row without a given shard is erased, or is the row of a zero point.
  pub erased-none : (x : ℕ) → x < row_count_of s → shard_in_row s x ≡ None → erased_in s x ≡ 0
      → ((frame_at s.configuration).zeros_from ≤ x) × (x < zeros_end (frame_at s.configuration))
  erased-none x hx none is =
      let f = frame_at s.configuration in
      elim (cases_lt x f.zeros_from) [
        | inl before ↦ absurd (not_erased (inl before))
        | inr above ↦ elim (cases_lt x (zeros_end f)) [
          | inl below ↦ (above, below)
          | inr past ↦ absurd (not_erased (inr ((among x).1 hx past)))
        ]
      ]
    where
      not_erased : (x < (frame_at s.configuration).zeros_from) ⊎ ((frame_at s.configuration).zeros_to ≤ x) → ⊥
      not_erased outside = let one = erased_in-row s x None outside none in omega (arith, one, is)

  -- Each word is below 65536.
  pub word_lt : (j x : ℕ) → words_in s j x < 65536
  word_lt j x = elim (cases_given s x) [
    | inl some ↦
        subst (λ (w : ℕ). w < 65536) (sym (word-given s j x some.0 some.1))
        (column_lt j
        (elim (given-either x some.0 some.1) [
          | inl own ↦ (g.own_sized.each own.0 some.0 own.3).1
          | inr coded ↦ (g.coded_sized.each coded.0 some.0 coded.3).1
        ]))
    | inr none ↦ subst (λ (w : ℕ). w < 65536) (sym (word-none s j x none)) (omega arith)
  ]
