-- The columns of a decoder's rows: the words of the given shards, and the polynomial that a decode makes of them.
use Rattle.std.proofs.Common.{rules, ◌≡◌, ℕ, ◌+◌, ◌/◌, ◌%◌, ◌<◌, List, Bool, true, false, sym, ap, ◌∙◌, inl, inr}
use Rattle.std.specs.Prelude.{slice_index, Some, is_some}
use Rattle.rs_field.specs.code.Column.{Shard, IsShard, column}
use Rattle.rs_field.specs.code.Configuration.{Configuration as AsDefined}
use Rattle.rs_field.specs.code.Counts.{Rate, supports}
use Rattle.rs_field.specs.code.Decoder.{DecoderState}
use Rattle.rs_field.specs.code.DirectLaws.{shard_in_row}
use Rattle.rs_field.specs.code.Frame.{frame_at, original_row}
use Rattle.rs_field.specs.code.Given.{Shards}
use Rattle.rs_field.specs.rows.Layout.{row_len}
use Rattle.rs_field.specs.rows.Rows.{Chunks, word_in}
use Rattle.rs_field.specs.rows.MarkedRows.{is_marked}
use Rattle.rs_field.proofs.words_lemmas.LocatorProduct.{same_residue}
use Rattle.rs_field.proofs.code_lemmas.Agreement.{AreColumns}
use Rattle.rs_field.proofs.code_lemmas.DirectColumn.{IsLocated}
use Rattle.rs_field.proofs.code_lemmas.GivenRows.{AreGiven, kind_of_row, shard_in_row-own, shard_in_row-coded}
use Rattle.rs_field.proofs.code_lemmas.GivenRows.{shard_in_row-other}
use Rattle.rs_rate.specs.declared.values.configuration.Configuration.{Configuration}
use Rattle.rs_rate.specs.values.Configured.{IsConfigured, with_frame}
use Rattle.rs_rate.specs.passes.Decoding.{IsLocatorOf, RestoresWords, RestoresShards, located_word}
use Rattle.rs_rate.specs.passes.Sums.{AreMarksOf}
use Rattle.rs_rate.specs.rows.DecoderView.{state_over}
use Rattle.rs_rate.specs.rows.Marks.{shards_by_row, HoldGiven, AreMissing}
use Rattle.rs_rate.specs.rows.ShardRows.{shard_laid_out, shard_in_order}
use Rattle.rs_rate.proofs.rows_lemmas.ShardRowsLemmas.{column-put}
use Rattle.rs_rate.proofs.rows_lemmas.RowMaps.{some-marked, part-in, part-some}
use Rattle.rs_rate.proofs.passes_lemmas.Erased.{is_located}
use Rattle.rs_rate.proofs.passes_lemmas.RestoringRows.{located_word-at}
use Rattle.rs_rate.proofs.values_lemmas.ConfiguredLemmas.{places-known}

-- The rows of a decoder before a decode: the rate supports the counts, and the marked rows hold the given shards.
pub record FilledRows (rate : Rate) (c : Configuration) : Type 0 where
  pub supported : supports rate c.original_count c.recovery_count ≡ true
  pub configured : IsConfigured c
  pub marks : List Bool
  pub chunks : Chunks
  pub originals : ℕ
  pub recovery : ℕ
  pub given : HoldGiven c originals recovery (shards_by_row marks chunks c.shard_bytes)

module _ {rate : Rate} {c : Configuration} (g : FilledRows rate c) where
  -- The given shards, by their rows.
  abbrev pub shards_in : Shards
  shards_in = shards_by_row g.marks g.chunks c.shard_bytes

  -- The state of the decoder before the decode.
  abbrev pub state_before : DecoderState
  state_before = state_over rate c shards_in

  -- An original is missing if its row is not marked.
  abbrev pub IsMissing : ℕ → Type 0
  IsMissing i = is_marked g.marks (original_row c.frame i) ≡ false

  -- Word j in a row.
  abbrev pub words_before : ℕ → ℕ → ℕ
  words_before j = word_in g.chunks (row_len c.shard_bytes) (j / 32) (j % 32)

-- The rows after a decode, in which the missing originals are marked.
pub record DecodedRows {rate : Rate} {c : Configuration} (g : FilledRows rate c) : Type 0 where
  pub marks : List Bool
  pub chunks : Chunks
  pub missing : AreMissing c g.marks marks

-- What a decode does to rows with k + surplus given shards.
pub record IsDecoded {rate : Rate} {c : Configuration} (g : FilledRows rate c) (left : DecodedRows g) (surplus : ℕ)
    (agrees : Bool) : Type 0 where
  pub counted : g.originals + g.recovery ≡ c.original_count + surplus
  pub restores : RestoresShards c g.marks surplus g.chunks left.chunks agrees
  pub sized : (i : ℕ) → i < c.original_count
      → IsShard c.shard_bytes (shard_in_order left.chunks c.shard_bytes (original_row c.frame i))

module _ (s : AsDefined) (g : FilledRows s.rate (with_frame s)) where
  -- The given shards are shards of a decoder.
  pub are_given : AreGiven (state_before g)
  are_given = search (rules, part-some)

  -- The shard in a row is the shard that is given there.
  pub row-given : (x : ℕ) → shard_in_row (state_before g) x ≡ shards_in g x
  row-given x =
      let frame = frame_at s in
      elim (kind_of_row (frame_at s) s.original_count s.recovery_count x) [
        | inl here ↦
            ap (shard_in_row (state_before g)) here.2 ∙ shard_in_row-own (state_before g) here.0 here.1
            ∙ part-in (shards_in g) frame.originals_from s.original_count here.0 here.1 ∙ sym (ap (shards_in g) here.2)
        | inr rest ↦ elim rest [
          | inl there ↦
              ap (shard_in_row (state_before g)) there.2
              ∙ shard_in_row-coded (state_before g) there.0 (places-known g.configured) there.1
              ∙ part-in (shards_in g) frame.recovery_from s.recovery_count there.0 there.1
              ∙ sym (ap (shards_in g) there.2)
          | inr neither ↦
              shard_in_row-other (state_before g) x neither.0 neither.1
              ∙ sym (g.given.placed x neither.0 neither.1)
        ]
      ]

  -- Exactly the rows of given shards are marked.
  pub are_marks : AreMarksOf (frame_at s) s.original_count s.recovery_count (state_before g).originals
      (state_before g).recovery g.marks
  are_marks x hx = sym (some-marked g.marks (shard_laid_out g.chunks s.shard_bytes) x) ∙ sym (ap is_some (row-given x))

  -- The words in the row of a given shard are the words of the shard.
  pub row_words : (j x : ℕ) (shard : Shard) → j < s.shard_bytes / 2 → shard_in_row (state_before g) x ≡ Some shard
      → (is_marked g.marks x ≡ true) × (words_before g j x ≡ column j shard)
  row_words j x shard hj is = search (rules, row-given, column-put)

  module _ {locator : List ℕ} (is_locator : IsLocatorOf (frame_at s) g.marks locator) where
    -- The locator is that of the given shards.
    pub rows_located : IsLocated (state_before g) (is_marked g.marks) (λ x. slice_index locator x)
    rows_located = is_located (state_before g) g.marks are_marks is_locator

    -- The columns of the rows that were decoded, with the coefficients of the polynomial through the located words.
    pub are_columns : {surplus : ℕ} {words : ℕ → ℕ → ℕ → ℕ} {agrees : Bool}
        (restored : RestoresWords (with_frame s) g.marks locator surplus (word_in g.chunks (row_len s.shard_bytes))
        words agrees)
        → AreColumns (state_before g) (λ j. located_word g.marks locator (words_before g j))
        (λ j. restored.coefficients (j / 32) (j % 32))
    are_columns restored j hj = search (rules, row_words, located_word-at, same_residue, rows_located)
