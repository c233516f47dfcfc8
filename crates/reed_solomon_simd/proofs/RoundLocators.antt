-- The locator of the rounds over strips: in each round the same rows are erased.
use Rattle.std.proofs.Common.{rules, ◌≡◌, ℕ, ◌%◌, ◌<◌, List, Bool, Ok, length, take, sym, ap, ◌∙◌, subst, arith}
use Rattle.std.proofs.lemmas.Bool.{cases_lt}
use Rattle.std.proofs.lemmas.List.{get_or-take, get_or_past, length-take}
use Rattle.std.specs.Prelude.{Option, Some, is_some, nat_le, nat_lt, ◌&&◌, ◌||◌, if◌then◌else◌}
use Rattle.rs_field.specs.code.Counts.{default_rate}
use Rattle.rs_field.specs.code.Decoder.{DecoderState, enough_given}
use Rattle.rs_field.specs.code.DirectLaws.{shard_in_row}
use Rattle.rs_field.specs.code.Frame.{frame_at, row_count}
use Rattle.rs_field.specs.code.PieceStates.{state_of_pieces}
use Rattle.rs_field.specs.declared.code.frame.Frame.{Frame}
use Rattle.rs_field.specs.rows.MarkedRows.{is_marked}
use Rattle.rs_field.proofs.code_lemmas.MissingShards.{enough-pieces}
use Rattle.rs_field.proofs.words_lemmas.LocatorLemmas.{log_sum-same}
use Rattle.rs_rate.specs.declared.rows.decoder_work.DecoderRows.{DecoderRows}
use Rattle.rs_rate.specs.declared.values.configuration.Configuration.{Configuration}
use Rattle.rs_rate.specs.passes.Decoding.{IsLocatorOf}
use Rattle.rs_rate.specs.passes.Located.{IsLocated}
use Rattle.rs_rate.specs.rows.DecoderView.{decoder_state}
use Rattle.rs_rate.specs.rows.Marks.{given_marks, marks_of_given, mark_count, erasure}
use Rattle.rs_rate.specs.rows.ShardRows.{shard_laid_out}
use Rattle.rs_rate.specs.values.Configured.{configuration_at, rate_of}
use Rattle.rs_rate.specs.values.SetUp.{IsSetUp}
use Rattle.rs_rate.proofs.passes_lemmas.DecodedColumns.{FilledRows, state_before, are_marks}
use Rattle.rs_rate.proofs.rows_lemmas.DecoderRows.{enough-least}
use Rattle.rs_rate.proofs.rows_lemmas.RowMaps.{given_if_some}
use Rattle.rs_rate.proofs.rows_lemmas.StateLemmas.{valid-supported}
use Rattle.rs_rate.proofs.values_lemmas.FrameLemmas.{supported-in_field}
use Rattle.reed_solomon_simd.specs.Base.{MarksReceived}
use Rattle.reed_solomon_simd.specs.Rounds.{HasLocator}
use Rattle.reed_solomon_simd.proofs.BaseLemmas.{some-pieces}

-- The locator for marks is the locator for other marks of the same rows.
locator-same : (frame : Frame) (a b : List Bool) (locator : List ℕ)
    → ((y : ℕ) → y < row_count frame → is_marked a y ≡ is_marked b y)
    → IsLocatorOf frame a locator → IsLocatorOf frame b locator
locator-same frame a b locator same is = record {
  entries = is.entries;
  are_words = is.are_words;
  values = λ x inside.
      is.values x inside
      ∙ ap (λ n. n % 65535) (log_sum-same (row_count frame) (erasure frame a) (erasure frame b) x (λ y less.
      ap (λ m. if (nat_le frame.zeros_from y && nat_lt y frame.zeros_to) || m then 0 else 1) (same y less)));
}

module _ (rows : DecoderRows) (is : IsSetUp default_rate rows.configuration) where
  -- Exactly the rows are marked in which a shard was given.
  marks-given : (x : ℕ) → x < row_count rows.configuration.frame
      → is_marked (given_marks rows.memory.marks) x ≡ is_some (shard_in_row (decoder_state default_rate rows) x)
  marks-given =
      subst (λ (c : Configuration). (g : FilledRows default_rate c) (x : ℕ) → x < row_count c.frame
      → is_marked g.marks x ≡ is_some (shard_in_row (state_before g) x)) (sym is.chosen)
      (λ g. are_marks (configuration_at default_rate rows.configuration) g)
      (record {
        supported = valid-supported (configuration_at default_rate rows.configuration) is.valid;
        configured = rows.configured;
        marks = given_marks rows.memory.marks;
        chunks = rows.memory.chunks.items;
        originals = rows.originals_given;
        recovery = rows.recovery_given;
        given = rows.given;
      })

module _ (rows : DecoderRows) (is : IsSetUp default_rate rows.configuration) (s : DecoderState) (start end : ℕ)
    (same : decoder_state default_rate rows ≡ state_of_pieces start end s) (enough : enough_given s ≡ Ok tt) where
  frame-is : rows.configuration.frame ≡ frame_at s.configuration
  frame-is =
      ap (λ (c : Configuration). c.frame) is.chosen ∙ ap (λ (t : DecoderState). frame_at t.configuration) same

  -- Enough shards were given in this round.
  pub enough-round : enough_given (decoder_state default_rate rows) ≡ Ok tt
  enough-round = ap enough_given same ∙ enough-pieces start end s ∙ enough

  -- Exactly the rows are marked in which a shard was received.
  marks-received : MarksReceived s (given_marks rows.memory.marks)
  marks-received =
      let own = rows.configuration in
      let least = enough-least (decoder_state default_rate rows) (sym enough-round) in
      let some = (supported-in_field (rate_of own) own.original_count own.recovery_count rows.configured.supported).0 in
      let given = given_if_some own rows.originals_given rows.recovery_given rows.memory.marks
      (shard_laid_out rows.memory.chunks.items own.shard_bytes)
      (omega (arith, some, least, rows.given.originals_counted, rows.given.recovery_counted)) rows.given in
      let many : length rows.memory.marks.rows.items ≡ mark_count rows.memory.marks = search rules in
      let count : length (given_marks rows.memory.marks) ≡ row_count own.frame =
      ap (λ t. length (marks_of_given t rows.memory.marks.rows.items)) given ∙ many ∙ rows.laid_out.marked in
      record {
        count = count ∙ ap row_count frame-is;
        exact = λ x inside.
            marks-given rows is x (omega (arith, inside, count))
            ∙ ap (λ (t : DecoderState). is_some (shard_in_row t x)) same ∙ some-pieces start end s x;
      }

  -- The first marks of the round are those of other rounds.
  first-same : (marks : List Bool) → MarksReceived s marks → (n y : ℕ) → y < row_count (frame_at s.configuration)
      → is_marked (take n marks) y ≡ is_marked (take n (given_marks rows.memory.marks)) y
  first-same marks received n y inside =
      let own = marks-received in
      let same : is_marked marks y ≡ is_marked (given_marks rows.memory.marks) y =
      received.exact y (omega (arith, inside, received.count)) ∙ sym (own.exact y (omega (arith, inside, own.count))) in
      search (rules, cases_lt, get_or-take, get_or_past, length-take)

  -- The locator of the round is the locator of the other rounds.
  pub locator-for : (after : DecoderRows) (n : ℕ)
      → IsLocatorOf rows.configuration.frame (take n (given_marks rows.memory.marks)) after.memory.entries.items
      → HasLocator after s n
  locator-for after n located = (
    given_marks rows.memory.marks,
    marks-received,
    subst (λ (f : Frame). IsLocatorOf f (take n (given_marks rows.memory.marks)) after.memory.entries.items) frame-is
        located,
  )

  -- The locator of the other rounds is the locator of this round.
  pub locator-of : (before : DecoderRows) (located : Option ℕ)
      → ((n : ℕ) → located ≡ Some n → HasLocator before s n)
      → rows.memory.entries.items ≡ before.memory.entries.items → IsLocated rows located
  locator-of before located has kept n is =
      let (marks, received, locator) = has n is in
      subst (λ (f : Frame). IsLocatorOf f (take n (given_marks rows.memory.marks)) rows.memory.entries.items)
      (sym frame-is)
      (subst (λ (l : List ℕ). IsLocatorOf (frame_at s.configuration) (take n (given_marks rows.memory.marks)) l)
      (sym kept)
      (locator-same (frame_at s.configuration) (take n marks) (take n (given_marks rows.memory.marks))
      before.memory.entries.items (first-same marks received n) locator))
