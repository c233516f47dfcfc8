-- The result of a decode, from what it did to the rows: the missing originals of the only message that agrees, or an
-- error if no message agrees.
use Rattle.std.proofs.Common.{rules, ◌≡◌, ℕ, ◌+◌, ◌/◌, ◌%◌, ◌<◌, List, Bool, true, false, cond, refl, sym, ap, ap₂, ◌∙◌}
use Rattle.std.proofs.Common.{arith, inl, inr, subst, true≢false, zero, suc}
use Rattle.std.specs.Prelude.{slice_index, Some, None, is_some, not, ◌&&◌, ◌↔◌, [], Result, Ok, Err, MatchResult}
use Rattle.std.proofs.lemmas.Bool.{cases_eq, lt-ltb}
use Rattle.rs_field.specs.declared.code.error.Error.{Error}
use Rattle.rs_field.specs.declared.code.error.Error.TheVariants.{InconsistentShards}
use Rattle.rs_field.specs.code.Column.{Shard, IsShard, AreShards, shard_at, column}
use Rattle.rs_field.specs.code.Configuration.{Configuration as AsDefined}
use Rattle.rs_field.specs.code.Counts.{Rate}
use Rattle.rs_field.specs.code.Decoder.{DecoderState, IsAgreeing, IsConsistent, missing_of, Restored, NoneAgrees}
use Rattle.rs_field.specs.code.Decoder.{originals_given, recovery_given}
use Rattle.rs_field.specs.code.Frame.{frame_at, original_row}
use Rattle.rs_field.specs.code.Given.{Shards, count_below}
use Rattle.rs_field.specs.words.UpTo.{up_to}
use Rattle.rs_field.specs.rows.Layout.{row_len}
use Rattle.rs_field.specs.words.Locator.{log_sum}
use Rattle.rs_field.specs.rows.MarkedRows.{is_marked}
use Rattle.rs_field.proofs.words_lemmas.LocatorProduct.{same_residue}
use Rattle.rs_field.proofs.words_lemmas.UpTo.{length-up_to, get-up_to, all-up_to}
use Rattle.rs_field.proofs.code_lemmas.Agreement.{AreColumns, consistent_exactly, restored_column, one_message}
use Rattle.rs_field.proofs.code_lemmas.AnyShards.{any_consistent}
use Rattle.rs_field.proofs.code_lemmas.Columns.{shard_from_columns}
use Rattle.rs_field.proofs.code_lemmas.Entries.{all_some}
use Rattle.rs_field.proofs.code_lemmas.Given.{count_below-suc}
use Rattle.rs_field.proofs.code_lemmas.GivenRows.{erased_in, row_count_of, erasures}
use Rattle.rs_field.proofs.code_lemmas.MadeShards.{has_recovery}
use Rattle.rs_field.proofs.code_lemmas.MissingShards.{missing-past}
use Rattle.rs_field.specs.rows.Rows.{word_in}
use Rattle.rs_rate.specs.declared.values.configuration.Configuration.{Configuration}
use Rattle.rs_rate.specs.values.Configured.{configuration_at, with_frame}
use Rattle.rs_rate.specs.values.SetUp.{IsSetUp}
use Rattle.rs_rate.specs.passes.Decoding.{IsBaseOf, IsLocatorOf, RestoresWords, SumsWords, located_word}
use Rattle.rs_rate.specs.rows.Marks.{restored_by_row, originals_in, recovery_in}
use Rattle.rs_rate.specs.rows.ShardRows.{shard_laid_out, shard_in_order}
use Rattle.rs_rate.proofs.rows_lemmas.RowMaps.{marked-at, marked-some, part-in, part-out, part-some, part-marked}
use Rattle.rs_rate.proofs.passes_lemmas.BaseAnswer.{consistent_by_rows, summed_original}
use Rattle.rs_rate.proofs.passes_lemmas.DecodedColumns.{FilledRows, DecodedRows, IsDecoded, IsMissing, shards_in}
use Rattle.rs_rate.proofs.passes_lemmas.DecodedColumns.{state_before, words_before, are_given, are_columns}
use Rattle.rs_rate.proofs.passes_lemmas.DecodedColumns.{rows_located}

-- The shard of a message at a missing index.
missing-in : (s : DecoderState) (message : List Shard) (i : ℕ) (given : Bool) → i < s.configuration.original_count
    → is_some (s.originals i) ≡ given
    → missing_of s message i ≡ cond (not given) (Some (shard_at message i)) None
unfolding missing_of
missing-in s message i given inside is =
    ap₂ (λ a b. cond (a && not b) (Some (shard_at message i)) None) (lt-ltb i s.configuration.original_count inside) is

module _ {rate : Rate} {c : Configuration} (g : FilledRows rate c) where
  -- An original is given exactly if its row is marked.
  given-marked : (i : ℕ) → i < c.original_count
      → is_some ((state_before g).originals i) ≡ is_marked g.marks (original_row c.frame i)
  given-marked = part-marked g.marks (shard_laid_out g.chunks c.shard_bytes) c.frame.originals_from c.original_count

  -- The restored originals after a decode.
  abbrev pub restored_after : DecodedRows g → Shards
  restored_after left = originals_in c (restored_by_row left.marks left.chunks c.shard_bytes)

  -- If the rows of the missing originals hold shards of a message, the restored originals are the missing shards of
  -- the message.
  restores_missing : (left : DecodedRows g) (message : List Shard)
      → ((i : ℕ) → i < c.original_count → IsMissing g i
      → shard_in_order left.chunks c.shard_bytes (original_row c.frame i) ≡ shard_at message i)
      → (i : ℕ) → restored_after left i ≡ missing_of (state_before g) message i
  restores_missing left message same i = search (rules, part-out, missing-past, part-in, missing-in)

-- The result of a decode: the restored originals if some message agrees, else an error.
abbrev pub AnswersOver : {rate : Rate} {c : Configuration} (g : FilledRows rate c) → DecodedRows g → Bool → Type 0
AnswersOver g left true = Restored (state_before g) (restored_after g left)
AnswersOver g left false = NoneAgrees (state_before g) (InconsistentShards g.originals g.recovery)

module _ (s : AsDefined) {g : FilledRows s.rate (with_frame s)} {left : DecodedRows g} {surplus : ℕ} {agrees : Bool}
    (d : IsDecoded g left surplus agrees) where
  -- The number of given shards.
  count : originals_given (state_before g) + recovery_given (state_before g) ≡ s.original_count + surplus
  count = omega (arith, g.given.originals_counted, g.given.recovery_counted, d.counted)

  -- The words that were found for the missing originals are the words of a message.
  abbrev AreFoundFor : List Shard → Type 0
  AreFoundFor message =
      (i j : ℕ) → i < s.original_count → j < s.shard_bytes / 2 → IsMissing g i
      → d.restores.words (j / 32) (j % 32) (original_row (frame_at s) i) ≡ column j (shard_at message i)

  -- The row of a missing original holds a shard with these words.
  restored_from : agrees ≡ true → (message : List Shard) → IsAgreeing (state_before g) message → AreFoundFor message
      → (i : ℕ) → i < s.original_count → IsMissing g i
      → shard_in_order left.chunks s.shard_bytes (original_row (frame_at s) i) ≡ shard_at message i
  restored_from agreed message a words i inside none = search (rules, shard_from_columns)

  -- The result of a decode that found out whether some message agrees, and then found the words of the missing
  -- originals of this message.
  by_agreement : (IsConsistent (state_before g) ↔ (agrees ≡ true))
      → (agrees ≡ true → (message : List Shard) → IsAgreeing (state_before g) message → AreFoundFor message)
      → AnswersOver g left agrees
  by_agreement exactly words = by_answer agrees refl
    where
      by_answer : (answer : Bool) → agrees ≡ answer → AnswersOver g left answer
      by_answer true is =
          let (message, agreeing) = exactly.1 is in
          record {
            message = message;
            agrees = agreeing;
            only = λ other also. one_message g.supported g.configured.even (omega (arith, count)) also agreeing;
            missing = restores_missing g left message
                (restored_from is message agreeing (words is message agreeing));
          }
      by_answer false is =
          let some : 0 < surplus = elim (cases_eq surplus 0) [
            | inl exact ↦ absurd (true≢false (sym (exactly.0 (any_consistent (are_given s g) g.configured.even
                (omega (arith, count, exact)))) ∙ is))
            | inr some ↦ omega arith
          ] in
          record {
            refusal = ap₂ InconsistentShards g.given.originals_counted g.given.recovery_counted;
            surplus = omega (arith, count, some);
            none = λ consistent. true≢false (sym (exactly.0 consistent) ∙ is);
          }

  module _ (locator : List ℕ) (is_locator : IsLocatorOf (frame_at s) g.marks locator)
      (restored : RestoresWords (with_frame s) g.marks locator surplus (word_in g.chunks (row_len s.shard_bytes))
      d.restores.words agrees) where
    are_columns_of : AreColumns (state_before g) (λ j. located_word g.marks locator (words_before g j))
        (λ j. restored.coefficients (j / 32) (j % 32))
    are_columns_of = are_columns s g is_locator restored

    -- Some message agrees exactly if the last rows are zero.
    agrees_by_rows : IsConsistent (state_before g) ↔ (agrees ≡ true)
    agrees_by_rows =
        let checked = restored.found.checked in
        let exact = consistent_exactly (are_given s g) are_columns_of surplus g.configured.even count in (
          λ some. checked.0 (λ i j past below inside. exact.0 some j i inside past below),
          λ yes. exact.1 (λ j i inside past below. checked.1 yes i j past below inside),
        )

    -- The words that were found by the polynomial are those of a message that agrees.
    found_by_rows : agrees ≡ true → (message : List Shard) → IsAgreeing (state_before g) message
        → AreFoundFor message
    found_by_rows agreed message a i j inside hj none =
        let p = original_row (frame_at s) i in
        let below : original_row (frame_at s) i < row_count_of (state_before g) =
        omega (arith, g.configured.own_rows, inside) in
        let (added, step, is) = restored.revealed agreed (j / 32) (j % 32) (omega (arith, hj)) (omega arith) i inside
        none in
        is ∙ restored_column (are_given s g) are_columns_of message added i j (slice_index locator p)
        (omega (arith, count)) a inside hj step
        ((erasures (are_given s g)).own i inside
        ∙ ap (λ (b : Bool). cond b 0 1) (given-marked g i inside ∙ none))
        (let word = is_locator.are_words (original_row (frame_at s) i) in omega (arith, word))
        (same_residue (slice_index locator p) (log_sum (row_count_of (state_before g)) (erased_in (state_before g)) p)
        ((rows_located s g is_locator).logarithms p below))

  module _ (base : List Bool) (locator : List ℕ) (is_base : IsBaseOf (with_frame s) g.marks base)
      (is_locator : IsLocatorOf (frame_at s) base locator)
      (sums : SumsWords (with_frame s) g.marks base locator (word_in g.chunks (row_len s.shard_bytes))
      d.restores.words agrees) where
    -- Some message agrees exactly if the given rows outside the base are equal to their sums.
    agrees_by_sums : IsConsistent (state_before g) ↔ (agrees ≡ true)
    agrees_by_sums =
        let both = consistent_by_rows s g is_base is_locator in
        (λ some. sums.checked.0 (both.0 some), λ yes. both.1 (sums.checked.1 yes))

    -- The words that were found by sums are those of a message that agrees.
    found_by_sums : agrees ≡ true → (message : List Shard) → IsAgreeing (state_before g) message
        → AreFoundFor message
    found_by_sums agreed message a i j inside hj none = search (rules, summed_original)

  -- The result of a decode, by the way in which the missing words were found.
  by_way : AnswersOver g left agrees
  by_way = elim d.restores.found [
    | inl restored ↦
        by_agreement (agrees_by_rows restored.0 restored.1 restored.2)
        (found_by_rows restored.0 restored.1 restored.2)
    | inr summed ↦
        by_agreement (agrees_by_sums summed.0 summed.1 summed.2 summed.3 summed.4)
        (found_by_sums summed.0 summed.1 summed.2 summed.3 summed.4)
  ]

-- The result of a decode follows from what it did to the rows.
pub decode_answers : {rate : Rate} {c : Configuration} → IsSetUp rate c → {g : FilledRows rate c} {left : DecodedRows g}
    {surplus : ℕ} {agrees : Bool} → IsDecoded g left surplus agrees → AnswersOver g left agrees
decode_answers {rate} {c} is {g} {left} {surplus} {agrees} =
    subst (λ (x : Configuration). (g : FilledRows rate x) (left : DecodedRows g) (surplus : ℕ) (agrees : Bool)
    → IsDecoded g left surplus agrees → AnswersOver g left agrees) (sym is.chosen)
    (λ g left surplus agrees. by_way (configuration_at rate c)) g left surplus agrees

-- If no shard is counted, no index has a shard.
no_shard : (n : ℕ) (given : Shards) (i : ℕ) (shard : Shard) → count_below n given ≡ 0 → i < n → given i ≡ Some shard → ⊥
no_shard zero given i shard none inside is = omega arith
no_shard (suc n) given i shard none inside is =
    let more = count_below-suc n given in
    elim (cases_eq i n) [
      | inl last ↦
          let here = ap {B = ℕ} (λ o. cond (is_some o) 1 0) (ap given (sym last) ∙ is) in omega
          (arith, more, here, none)
      | inr less ↦ no_shard n given i shard (omega (arith, more, none)) (omega arith) is
    ]

-- If all originals and no recovery shards were added, the originals are the only message that agrees, and no original
-- is missing.
module _ {rate : Rate} {c : Configuration} {g : FilledRows rate c} (left : DecodedRows g)
    (whole : (g.originals ≡ c.original_count) × (g.recovery ≡ 0)) where
  message : List Shard
  message = up_to c.original_count (λ i. shard_laid_out g.chunks c.shard_bytes (original_row c.frame i))

  all_marked : (i : ℕ) → i < c.original_count → is_marked g.marks (original_row c.frame i) ≡ true
  all_marked i inside =
      sym (given-marked g i inside)
      ∙ all_some c.original_count (originals_in c (shards_in g))
      (omega (arith, whole.0, g.given.originals_counted)) i inside

  are_message : AreShards c.original_count c.shard_bytes message
  unfolding message
  are_message = record {
    length_is = length-up_to c.original_count
        (λ i. shard_laid_out g.chunks c.shard_bytes (original_row c.frame i));
    each = all-up_to (IsShard c.shard_bytes) c.original_count
        (λ i. shard_laid_out g.chunks c.shard_bytes (original_row c.frame i))
        (λ i inside. g.given.sized (original_row c.frame i) _ (marked-at g.marks
        (shard_laid_out g.chunks c.shard_bytes) (original_row c.frame i) true (all_marked i inside)));
  }

  message_agrees : IsAgreeing (state_before g) message
  unfolding message
  message_agrees =
      let recovered = has_recovery (configuration_at rate c) message g.supported g.configured.even are_message in
      record {
        shards = are_message;
        own = λ i shard some.
            let (inside, is) = part-some (shards_in g) c.frame.originals_from c.original_count i shard some in
            get-up_to c.original_count (λ j. shard_laid_out g.chunks c.shard_bytes (original_row c.frame j)) i [] inside
            ∙ (marked-some g.marks (shard_laid_out g.chunks c.shard_bytes) (original_row c.frame i)
            shard is).1;
        coded = (
          recovered.0,
          recovered.1,
          λ i shard some.
              let (inside, is) = part-some (shards_in g) c.frame.recovery_from c.recovery_count i shard some in
              absurd (no_shard c.recovery_count (recovery_in c (shards_in g)) i shard
              (sym g.given.recovery_counted ∙ whole.1) inside some),
        );
      }

  pub complete_answers : Restored (state_before g) (restored_after g left)
  complete_answers =
      record {
        message = message;
        agrees = message_agrees;
        only = λ other also. one_message g.supported g.configured.even
            (omega (arith, whole.0, g.given.originals_counted)) also message_agrees;
        missing = restores_missing g left message
            (λ i inside not_given. absurd (true≢false (sym (all_marked i inside) ∙ not_given)));
      }

-- The result is a success if some message agrees, and `InconsistentShards` if none agrees.
pub answer_by_check : {T : Type 0} {rate : Rate} {c : Configuration} (g : FilledRows rate c) (left : DecodedRows g)
    (agrees : Bool) (answer : Result T Error) → AnswersOver g left agrees
    → (agrees ≡ true → (done : T) × (answer ≡ Ok done))
    → (agrees ≡ false → answer ≡ Err (InconsistentShards g.originals g.recovery))
    → MatchResult answer (λ _. Restored (state_before g) (restored_after g left)) (NoneAgrees (state_before g))
answer_by_check g left true answer over done failed = rw (done refl).1 over
answer_by_check g left false answer over done failed = rw (failed refl) over
