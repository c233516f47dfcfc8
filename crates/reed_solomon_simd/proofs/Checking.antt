-- Originals in a list are checked one after another.
use Rattle.std.proofs.Common.{rules, ◌≡◌, ℕ, zero, suc, ◌+◌, ◌<◌, ◌≤◌, List, [], ◌∷◌, ◌++◌, length, take, get_or, All}
use Rattle.std.proofs.Common.{Result, Ok, Err, MatchResult, refl, sym, ap, subst, arith, append_assoc, append-nil}
use Rattle.std.proofs.Common.{length-append}
use Rattle.std.proofs.lemmas.Bool.{lt-leb, le-ltb, eq-eqb}
use Rattle.std.proofs.lemmas.List.Elements.{recursion_from_All}
use Rattle.rs_field.specs.declared.code.error.Error.{Error}
use Rattle.rs_field.specs.declared.code.error.Error.TheVariants.{TooFewOriginalShards, OutOfMemory}
use Rattle.rs_field.specs.code.Code.{AreRecovery}
use Rattle.rs_field.specs.code.Column.{Shard, IsShard}
use Rattle.rs_field.specs.code.Configuration.{start_outcome, validation_outcome}
use Rattle.rs_field.specs.code.Counts.{default_rate}
use Rattle.rs_field.specs.code.Encoder.{EncoderState, fresh_encoder, with_shard, message_of}
use Rattle.rs_field.specs.code.OneCall.{default_of, with_shards, OneEncodeAnswers}
use Rattle.rs_field.specs.code.Outcome.{answer_of}
use Rattle.rs_field.specs.code.Frame.{encoder_rows}
use Rattle.rs_rate.specs.objects.Giving.{IsEncoding}
use Rattle.rs_rate.proofs.objects_lemmas.Giving.{adds-ok, adds-err, outcome-err}
use Rattle.rs_rate.proofs.objects_lemmas.OneCall.{encoding-refused}
use Rattle.reed_solomon_simd.proofs.ObjectRoundTrip.{takes-all}
use Rattle.reed_solomon_simd.proofs.Gathering.{has-made, encoded-all}
use Rattle.reed_solomon_simd.proofs.SetUp.{started-parts}
use Rattle.reed_solomon_simd.specs.Checked.{AreChecked}

-- The error of the first original that cannot be added is the outcome of adding all originals.
refused-at : (s : EncoderState) (shards : List Shard) (i : ℕ) (e : Error) → i < length shards
    → length s.given + i ≤ s.configuration.original_count
    → ((j : ℕ) → j < i → length (get_or shards j []) ≡ s.configuration.shard_bytes)
    → Err e ≡ answer_of (with_shard (record s { given = s.given ++ take i shards }) (get_or shards i []))
    → with_shards s shards ≡ Err e
refused-at s [] i e inside room sized refused = absurd (let no : ⊥ = omega (arith, inside) in no)
refused-at s (x ∷ xs) zero e inside room sized refused =
    let same : record s { given = s.given ++ [] } ≡ s =
    ap (λ (given : List Shard). record s { given = given }) (append-nil s.given) in
    adds-err with_shard s x xs e
    (outcome-err _ e (subst (λ (t : EncoderState). Err e ≡ answer_of (with_shard t x)) same refused))
refused-at s (x ∷ xs) (suc i) e inside room sized refused =
    let next : EncoderState = record s { given = s.given ++ x ∷ [] } in
    let long : length (s.given ++ x ∷ []) ≡ length s.given + 1 = length-append s.given (x ∷ []) in
    let taken : with_shard s x ≡ Ok (record s { given = s.given ++ x ∷ [] }) =
    rw (
      lt-leb s.configuration.original_count (length s.given) (omega (arith, room)),
      eq-eqb
          (length x) s.configuration.shard_bytes (sized 0 (omega arith)),
    ) refl in
    adds-ok with_shard s next x xs (Err e) taken
    (refused-at next xs i e (omega (arith, inside)) (omega (arith, long, room))
    (λ j h. sized (suc j) (omega (arith, h)))
    (subst (λ (given : List Shard). Err e ≡ answer_of (with_shard (record s { given = given }) (get_or xs i [])))
    (sym (append_assoc s.given (x ∷ []) (take i xs))) refused))

module _ (k r size : ℕ) (shards : List Shard) (some : 0 < length shards)
    (first : length (get_or shards 0 []) ≡ size) where
  -- If setting up with the size of the first original fails, one call fails with the same error.
  pub checked-unset : (e : Error) → Err e ≡ start_outcome (encoder_rows default_rate k r) (default_of k r size)
      → OneEncodeAnswers k r shards (Err e)
  checked-unset e refused = search rules

  -- If setting up succeeds, the outcome of adding the originals is the outcome of encoding.
  pub checked-led : Ok tt ≡ start_outcome (encoder_rows default_rate k r) (default_of k r size)
      → (o : Result EncoderState Error)
      → with_shards (fresh_encoder (default_of k r size)) shards ≡ o → IsEncoding k r shards o
  checked-led made o is = search rules

  -- If an original cannot be added, one call fails with its error.
  pub checked-refused : Ok tt ≡ start_outcome (encoder_rows default_rate k r) (default_of k r size)
      → (i : ℕ) (e : Error) → i < length shards → i ≤ k
      → ((j : ℕ) → j < i → length (get_or shards j []) ≡ size)
      → Err e ≡ answer_of (with_shard (record { configuration = default_of k r size; given = take i shards })
      (get_or shards i [])) → OneEncodeAnswers k r shards (Err e)
  checked-refused made i e inside room sized refused =
      encoding-refused k r shards e
      (checked-led made (Err e)
      (refused-at (fresh_encoder (default_of k r size)) shards i e inside (omega (arith, room)) sized refused))

  module _ (made : Ok tt ≡ start_outcome (encoder_rows default_rate k r) (default_of k r size))
      (few : length shards ≤ k) (sized : All (λ s. length s ≡ size) shards) where
    -- If every original can be added, the encoder has all originals.
    pub checked-all : IsEncoding k r shards (Ok (record { configuration = default_of k r size; given = shards }))
    checked-all = search (rules, checked-led, takes-all, recursion_from_All)

    -- If there are too few originals, one call fails with `TooFewOriginalShards`.
    pub checked-few : length shards < k → OneEncodeAnswers k r shards (Err (TooFewOriginalShards k (length shards)))
    checked-few less = search (rules, checked-all)

-- If k shards have a valid size and can be set up, they are checked originals.
pub are-checked : (k r size : ℕ) (shards : List Shard) → 0 < k → length shards ≡ k → All (IsShard size) shards
    → Ok tt ≡ start_outcome (encoder_rows default_rate k r) (default_of k r size) → AreChecked k r size shards
are-checked k r size shards some number sized made = search (rules, checked-all)

module _ (k r size : ℕ) (shards : List Shard) (is : AreChecked k r size shards) where
  -- The encoder to which the checked originals were added.
  abbrev checked : EncoderState
  checked = record { configuration = default_of k r size; given = shards }

  -- The counts and the size of checked originals are valid.
  pub checked-valid : validation_outcome (default_of k r size) ≡ Ok tt
  checked-valid = (started-parts (encoder_rows default_rate k r) (default_of k r size) is.set_up).0

  whole : Ok tt ≡ answer_of (message_of checked)
  whole = let number = is.number in rw (le-ltb (length shards) k (omega (arith, number))) refl

  -- Checked originals have recovery shards.
  pub checked-made : (recovery : List Shard) × AreRecovery (default_of k r size) shards recovery
  checked-made =
      has-made checked (record {
        of_rate = refl;
        valid = checked-valid;
        fits = (started-parts (encoder_rows default_rate k r) (default_of k r size) is.set_up).1;
        no_more = let number = is.number in omega (arith, number);
        sized = is.sized;
      }) whole

  -- The recovery shards of checked originals, or `OutOfMemory`, are a result of one call.
  pub checked-encodes : (result : Result (List Shard) Error)
      → MatchResult result (λ recovery. AreRecovery (default_of k r size) shards recovery) (λ e. e ≡ OutOfMemory)
      → OneEncodeAnswers k r shards result
  checked-encodes = encoded-all k r shards checked is.led whole
