-- From encoders and decoders to which shards were added, to the result of one call.
use Rattle.std.proofs.Common.{rules, ◌≡◌, ℕ, true, false, List, [], ◌∷◌, length, Some, None, Result, Ok, Err, IsOk}
use Rattle.std.proofs.Common.{IfOk, MatchResult, inl, inr, refl, sym, ap, subst, ◌⊎◌, ◌∙◌}
use Rattle.rs_field.specs.declared.code.error.Error.{Error}
use Rattle.rs_field.specs.declared.code.error.Error.TheVariants.{OutOfMemory, UnsupportedShardCount}
use Rattle.rs_field.specs.code.Column.{Shard}
use Rattle.rs_field.specs.code.Configuration.{Configuration, validation_outcome, start_outcome, UpToMemory}
use Rattle.rs_field.specs.code.Counts.{default_rate, supports}
use Rattle.rs_field.specs.code.Decoder.{DecoderState, fresh_decoder, DecodeAnswers}
use Rattle.rs_field.specs.code.Encoder.{EncoderState, IsEncoder, fresh_encoder, EncodeAnswers}
use Rattle.rs_field.specs.code.Given.{Shards, nothing, Lists}
use Rattle.rs_field.specs.code.OneCall.{Items, default_of, counts_outcome, originals_alone, encode_opening, with_shards}
use Rattle.rs_field.specs.code.OneCall.{with_originals, with_recoveries, with_both, encoding_outcome, decoding_outcome}
use Rattle.rs_field.specs.code.OneCall.{OneEncodeAnswers, OneDecodeAnswers}
use Rattle.rs_field.specs.code.Outcome.{result_and_then}
use Rattle.rs_field.specs.code.Frame.{encoder_rows, decoder_rows}
use Rattle.rs_field.specs.code.RoundTrip.{AreCoded}
use Rattle.rs_field.proofs.code_lemmas.Listed.{items_from-zero}
use Rattle.rs_field.proofs.code_lemmas.OneRoundTrip.{coded_by}
use Rattle.rs_rate.specs.objects.Giving.{IsEncoding, IsDecoding}

-- ---- calls one after another

-- If the second of two calls succeeds, the first call succeeded.
first-ok : {S T : Type 0} (f : S → Result T Error) (o : Result S Error) (t : T) → Ok t ≡ result_and_then f o → (s : S)
    × (o ≡ Ok s) × (f s ≡ Ok t)
first-ok f (Ok s) t is = (s, refl, sym is)
first-ok f (Err e) t is = absurd (let no : ⊥ = cc in no)

-- If the second of two calls cannot fail, an error is the error of the first call.
first-err : {S T : Type 0} (f : S → T) (o : Result S Error) (e : Error) → Err e ≡ result_and_then (λ s. Ok (f s)) o
    → o ≡ Err e
first-err f (Ok s) e is = absurd (let no : ⊥ = cc in no)
first-err f (Err x) e is = let same : e ≡ x = cc in ap Err (sym same)

-- If setting up succeeds, the configuration is valid.
start_outcome-valid : (rows : ℕ) (c : Configuration) → IsOk (start_outcome rows c) → IsOk (validation_outcome c)
start_outcome-valid rows c made = search rules

-- `OutOfMemory` as a result of one type is `OutOfMemory` as a result of another type.
as-lacking : {S T : Type 0} (e : Error) → ◌≡◌ {A = Result S Error} (Err e) (Err OutOfMemory)
    → ◌≡◌ {A = Result T Error} (Err e) (Err OutOfMemory)
as-lacking e lacks = let same : e ≡ OutOfMemory = cc in ap Err same

-- If an outcome is a success, the property of its value is the property of the result.
leads-on : {S T : Type 0} (A : S → Result T Error → Type 0) (o : Result S Error) (s : S) (result : Result T Error)
    → o ≡ Ok s → A s result
    → MatchResult o (λ s. A s result) (λ e. result ≡ Err e)
leads-on A o s result is holds = subst (λ o. MatchResult o (λ s. A s result) (λ e. result ≡ Err e)) (sym is) holds

leads-off : {S T : Type 0} (A : S → Result T Error → Type 0) (o : Result S Error) (e : Error) → o ≡ Err e
    → MatchResult o (λ s. A s (Err e)) (λ f. ◌≡◌ {A = Result T Error} (Err e) (Err f))
leads-off {T = T} A o e is =
    subst (λ o. MatchResult o (λ s. A s (Err e)) (λ f. ◌≡◌ {A = Result T Error} (Err e) (Err f))) (sym is) refl

-- ---- encoders

-- If the counts are not supported, encoding fails with `UnsupportedShardCount`, whatever the shards are.
pub encoding-uncounted : (k r : ℕ) (shards : List Shard) (e : Error) → (supports default_rate k r ≡ false)
    × (e ≡ UnsupportedShardCount k r) → IsEncoding k r shards (Err e)
encoding-uncounted k r [] e refused = rw (refused.0, refused.1) (inl refl)
encoding-uncounted k r (x ∷ xs) e refused = rw (refused.0, refused.1) (inl refl)

module _ (k r : ℕ) (first : Shard) (rest : List Shard) where
  -- If setting up the encoder fails, encoding fails with the same error.
  pub encoding-unset : (e : Error)
      → UpToMemory (start_outcome (encoder_rows default_rate k r) (default_of k r (length first))) (Err e)
      → IsEncoding k r (first ∷ rest) (Err e)
  encoding-unset e (inl same) =
      inl (ap (result_and_then (λ _. with_shards (fresh_encoder (default_of k r (length first))) (first ∷ rest))) same)
  encoding-unset e (inr lacks) =
      inr (
        start_outcome-valid (encoder_rows default_rate k r)
            (default_of k r (length first)) lacks.0,
        as-lacking e lacks.1,
      )

  -- If the encoder was set up, the outcome of adding the shards is the outcome of encoding.
  pub encoding-given : (start : EncoderState)
      → UpToMemory (start_outcome (encoder_rows default_rate k r) (default_of k r (length first))) (Ok tt)
      → start ≡ fresh_encoder (default_of k r (length first)) → (o : Result EncoderState Error)
      → with_shards start (first ∷ rest) ≡ o → IsEncoding k r (first ∷ rest) o
  encoding-given start made fresh o is = search rules

-- An error of adding the originals is an error of one-call `encode`.
pub encoding-refused : (k r : ℕ) (shards : List Shard) (e : Error) → IsEncoding k r shards (Err e)
    → OneEncodeAnswers k r shards (Err e)
encoding-refused k r shards e (inl same) = inl (leads-off EncodeAnswers (encoding_outcome k r shards) e (sym same))
encoding-refused k r shards e (inr lacks) = inr (lacks.0, as-lacking e lacks.1)

module _ (k r : ℕ) (shards : List Shard) (s : EncoderState) (is : IsEncoding k r shards (Ok s)) where
  led : encoding_outcome k r shards ≡ Ok s
  led = elim is [ inl same ↦ sym same | inr lacks ↦ let refused = lacks.1 in cc ]

  -- The result of the encoder is a result of one call.
  pub encoding-answers : (result : Result (List Shard) Error) → EncodeAnswers s result
      → OneEncodeAnswers k r shards result
  encoding-answers result answers = inl (leads-on EncodeAnswers (encoding_outcome k r shards) s result led answers)

  -- If the encoder has all shards, the checks before memory is allocated succeeded.
  pub encoding-opened : IsOk (encode_opening k r shards)
  encoding-opened = search rules

  -- The recovery shards that the encoder returns are the recovery shards of the code.
  pub encoding-coded : IsEncoder default_rate s → (recovery : List Shard) (result : Result (List Shard) Error)
      → EncodeAnswers s (Ok recovery)
      → MatchResult result (λ shards. shards ≡ recovery) (λ e. e ≡ OutOfMemory) → IfOk result (AreCoded k r shards)
  encoding-coded valid recovery (Err e) answers short = tt
  encoding-coded valid recovery (Ok out) answers same = by_shards shards led
    where
      by_shards : (shards : List Shard) → encoding_outcome k r shards ≡ Ok s → AreCoded k r shards out
      by_shards [] is = let two = first-ok {T = EncoderState} _ (counts_outcome k r) s (sym is) in let refused =
          two.2 in absurd (let no : ⊥ = cc in no)
      by_shards (x ∷ xs) is =
          let one = first-ok _ (start_outcome (encoder_rows default_rate k r) (default_of k r (length x))) s (sym is) in
          coded_by k r x xs out s valid one.2 (subst (λ l. EncodeAnswers s (Ok l)) (sym same) answers)

-- ---- decoders

-- If the originals were added, adding both kinds has the outcome of adding the recovery shards.
pub both-ok : (s now : DecoderState) (originals recovery : Items) (o : Result DecoderState Error)
    → with_originals s originals ≡ Ok now → with_recoveries now recovery ≡ o → with_both s originals recovery ≡ o
both-ok s now originals recovery o taken led = ap (result_and_then (λ t. with_recoveries t recovery)) taken ∙ led

-- If an original cannot be added, adding both kinds fails with its error.
pub both-err : (s : DecoderState) (originals recovery : Items) (e : Error) → with_originals s originals ≡ Err e
    → with_both s originals recovery ≡ Err e
both-err s originals recovery e refused = ap (result_and_then (λ t. with_recoveries t recovery)) refused

pub decoding-uncounted : (k r : ℕ) (originals recovery : Items) (e : Error) → (supports default_rate k r ≡ false)
    × (e ≡ UnsupportedShardCount k r) → IsDecoding k r originals recovery (Err e)
decoding-uncounted k r originals [] e refused = rw (refused.0, refused.1) (inl refl)
decoding-uncounted k r originals (x ∷ xs) e refused = rw (refused.0, refused.1) (inl refl)

-- If there is no recovery shard, the outcome is that of the check of the originals alone, or `OutOfMemory`.
pub decoding-none : (k r : ℕ) (originals : Items) (o : Result (Unit {0}) Error) → supports default_rate k r ≡ true
    → (o ≡ originals_alone k originals) ⊎ (o ≡ Err OutOfMemory)
    → IsDecoding k r originals [] (result_and_then (λ _. Ok None) o)
decoding-none k r originals o supported (inl same) = rw supported (inl (ap (result_and_then (λ _. Ok None)) same))
decoding-none k r originals o supported (inr lacks) =
    rw supported (inr (refl, ap (result_and_then (λ _. Ok None)) lacks))

module _ (k r : ℕ) (originals : Items) (first : ℕ × Shard) (rest : Items) where
  -- If setting up the decoder fails, decoding fails with the same error.
  pub decoding-unset : (e : Error)
      → UpToMemory (start_outcome (decoder_rows default_rate k r) (default_of k r (length first.1))) (Err e)
      → IsDecoding k r originals (first ∷ rest) (Err e)
  decoding-unset e (inl same) =
      inl (ap (λ o. result_and_then (λ s. Ok (Some s))
      (result_and_then (λ _. with_both (fresh_decoder (default_of k r (length first.1))) originals (first ∷ rest))
      o)) same)
  decoding-unset e (inr lacks) =
      inr (
        start_outcome-valid (decoder_rows default_rate k r)
            (default_of k r (length first.1)) lacks.0,
        as-lacking e lacks.1,
      )

  -- If the decoder was set up, the outcome of adding the shards is the outcome of decoding.
  pub decoding-given : (start : DecoderState)
      → UpToMemory (start_outcome (decoder_rows default_rate k r) (default_of k r (length first.1))) (Ok tt)
      → start ≡ fresh_decoder (default_of k r (length first.1)) → (o : Result DecoderState Error)
      → with_both start originals (first ∷ rest) ≡ o
      → IsDecoding k r originals (first ∷ rest) (result_and_then (λ s. Ok (Some s)) o)
  decoding-given start made fresh o is = search rules

-- An error of adding the shards is an error of one-call `decode`.
pub decoding-refused : (k r : ℕ) (originals recovery : Items) (e : Error) → IsDecoding k r originals recovery (Err e)
    → OneDecodeAnswers k r originals recovery (Err e)
decoding-refused k r originals recovery e (inr lacks) = inr (lacks.0, as-lacking e lacks.1)
decoding-refused k r originals [] e (inl same) =
    inl (leads-off (λ _ result. result ≡ Ok nothing) _ e (first-err (λ _. None) _ e same))
decoding-refused k r originals (first ∷ rest) e (inl same) =
    inl (leads-off DecodeAnswers (decoding_outcome k r originals first rest) e (first-err Some _ e same))

-- The empty map lists no shards.
pub lists-none : Lists nothing []
lists-none = record { count = 0; none_past = λ i h. refl; in_order = sym (items_from-zero 0 nothing) }

-- If no decoder was made, one call returns the empty map.
pub decoding-nothing : (k r : ℕ) (originals recovery : Items) → IsDecoding k r originals recovery (Ok None)
    → OneDecodeAnswers k r originals recovery (Ok nothing)
decoding-nothing k r originals recovery (inr lacks) = let refused = lacks.1 in absurd (let no : ⊥ = cc in no)
decoding-nothing k r originals [] (inl same) = let one = first-ok _ _ None same in
    inl (leads-on (λ _ result. result ≡ Ok nothing) _ one.0 (Ok nothing) one.1 refl)
decoding-nothing k r originals (first ∷ rest) (inl same) = let one =
    first-ok _ (decoding_outcome k r originals first rest) None same in let other = one.2 in
    absurd (let no : ⊥ = cc in no)

module _ (k r : ℕ) (originals recovery : Items) (s : DecoderState)
    (is : IsDecoding k r originals recovery (Ok (Some s))) where
  -- The result of the decoder is a result of one call.
  pub decoding-answers : (result : Result Shards Error) → DecodeAnswers s result
      → OneDecodeAnswers k r originals recovery result
  decoding-answers result answers = search rules
