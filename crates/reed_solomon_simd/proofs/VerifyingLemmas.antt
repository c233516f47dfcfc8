-- From the result of collecting received shards to the result of `verify`.
use Rattle.std.proofs.Common.{rules, arith}
use Rattle.std.proofs.Common.{
  ◌≡◌,
  ℕ,
  [],
  ◌∷◌,
  Option,
  Some,
  None,
  Result,
  Ok,
  Err,
  false,
  refl,
  sym,
  ap,
  ◌∙◌,
  subst,
  inl,
  inr,
}
use Rattle.std.specs.Prelude.{◌⊎◌, MatchResult, IsOk}
use Rattle.rs_field.specs.declared.code.error.Error.{Error}
use Rattle.rs_field.specs.declared.code.error.Error.TheVariants.{UnsupportedShardCount, NotEnoughShards, OutOfMemory}
use Rattle.std.proofs.lemmas.Grind.{common_steps}
use Rattle.rs_field.specs.code.Column.{Shard}
use Rattle.rs_field.specs.code.Configuration.{Configuration, validation_outcome, start_outcome}
use Rattle.rs_field.specs.code.Counts.{default_rate, supports}
use Rattle.rs_field.specs.code.Decoder.{DecoderState, enough_given, IsConsistent, NoneAgrees, fresh_decoder}
use Rattle.rs_field.specs.code.Decoder.{with_original, with_recovery}
use Rattle.rs_field.specs.code.Frame.{decoder_rows}
use Rattle.rs_field.specs.code.OneCall.{Items, default_of, counts_outcome, with_both, one_by_one, with_originals}
use Rattle.rs_field.specs.code.OneCall.{with_recoveries}
use Rattle.rs_field.specs.code.Outcome.{result_and_then}
use Rattle.reed_solomon_simd.specs.Verified.{received_size, receiving_opening, receiving_outcome, IsReceiving}
use Rattle.reed_solomon_simd.specs.Verified.{VerifyAnswers, OneVerifies}
use Rattle.reed_solomon_simd.proofs.SetUp.{started-parts, started-of}

-- ---- the result of `verify`

module _ (k r : ℕ) (originals recovery : Items) where
  -- If the counts are not supported, `verify` fails with their error.
  pub verifies-uncounted : (e : Error) → (supports default_rate k r ≡ false) × (e ≡ UnsupportedShardCount k r)
      → OneVerifies k r originals recovery (Err e)
  verifies-uncounted e refused = search rules

  -- An error of collecting the shards is an error of `verify`.
  pub verifies-refused : (e : Error) → IsReceiving k r originals recovery (Err e)
      → OneVerifies k r originals recovery (Err e)
  verifies-refused e (inl same) =
      inl (subst (λ (o : Result DecoderState Error).
      MatchResult o (λ s. VerifyAnswers s (Err e)) (λ f. ◌≡◌ {A = Result (Unit {0}) Error} (Err e) (Err f))) same refl)
  verifies-refused e (inr lacks) =
      let refused = lacks.1 in
      let same : e ≡ OutOfMemory = cc in
      inr (lacks.0, ap Err same)

  module _ (s : DecoderState) (is : IsReceiving k r originals recovery (Ok s)) where
    -- The decoder is the outcome of adding the shards.
    pub receiving-outcome : Ok s ≡ receiving_outcome k r (received_size originals recovery) originals recovery
    receiving-outcome = search rules

    -- What the decoder says of the shards is the result of `verify`.
    verifies-led : (result : Result (Unit {0}) Error) → VerifyAnswers s result
        → OneVerifies k r originals recovery result
    verifies-led result answers = search rules

    -- The checks before the first allocation found no error.
    pub receiving-opened : IsOk (receiving_opening k r (received_size originals recovery))
    receiving-opened = search rules

    -- A decoder with enough shards says whether a message agrees with them.
    enough-says : Ok tt ≡ enough_given s → (result : Result (Unit {0}) Error)
        → MatchResult result (λ _. IsConsistent s) (NoneAgrees s) → VerifyAnswers s result
    enough-says enough result says = search rules

    -- The result of checking the shards is the result of `verify`.
    pub verifies-checked : Ok tt ≡ enough_given s → (result : Result (Unit {0}) Error)
        → MatchResult result (λ _. IsConsistent s) (λ e. NoneAgrees s e ⊎ (e ≡ OutOfMemory))
        → OneVerifies k r originals recovery result
    verifies-checked enough (Ok u) consistent = verifies-led (Ok u) (enough-says enough (Ok u) consistent)
    verifies-checked enough (Err e) (inl none) = verifies-led (Err e) (enough-says enough (Err e) none)
    verifies-checked enough (Err e) (inr lacks) = inr (receiving-opened, ap Err lacks)

-- ---- what was received

-- Adding an original or a recovery shard does not change the configuration.
original-kept : (s t : DecoderState) (item : ℕ × Shard) → with_original s item.0 item.1 ≡ Ok t
    → t.configuration ≡ s.configuration
original-kept s t item is = grind (arith, common_steps)

recovery-kept : (s t : DecoderState) (item : ℕ × Shard) → with_recovery s item.0 item.1 ≡ Ok t
    → t.configuration ≡ s.configuration
recovery-kept s t item is = grind (arith, common_steps)

-- If each addition keeps the configuration, adding items one after another keeps it.
kept-by : (add : DecoderState → ℕ × Shard → Result DecoderState Error)
    → ((s t : DecoderState) (item : ℕ × Shard) → add s item ≡ Ok t → t.configuration ≡ s.configuration)
    → (items : Items) (s t : DecoderState) → one_by_one add s items ≡ Ok t → t.configuration ≡ s.configuration
kept-by add keeps [] s t is = let same : s ≡ t = cc in ap (λ (x : DecoderState). x.configuration) (sym same)
kept-by add keeps (item ∷ items) s t is =
    by_outcome (add s item) refl is (λ next rest. kept-by add keeps items next t rest)
  where
    by_outcome : (o : Result DecoderState Error) → add s item ≡ o
        → result_and_then (λ next. one_by_one add next items) o ≡ Ok t
        → ((next : DecoderState) → one_by_one add next items ≡ Ok t → t.configuration ≡ next.configuration)
        → t.configuration ≡ s.configuration
    by_outcome (Ok next) first rest further = further next rest ∙ keeps s next item first
    by_outcome (Err e) first rest further = absurd (let no : ⊥ = cc in no)

-- A decoder to which all received shards were added has a valid configuration for the counts.
pub received-configured : (k r : ℕ) (originals recovery : Items) (s : DecoderState)
    → receiving_outcome k r (received_size originals recovery) originals recovery ≡ Ok s
    → (validation_outcome s.configuration ≡ Ok tt) × (s.configuration.original_count ≡ k)
received-configured k r originals recovery s is = by_size (received_size originals recovery) is
  where
    by_counts : (o : Result (Unit {0}) Error)
        → result_and_then (λ _. Err (NotEnoughShards k 0 0)) o ≡ Ok s → ⊥
    by_counts (Ok u) same = cc
    by_counts (Err e) same = cc

    by_originals : (c : Configuration) (o : Result DecoderState Error) → with_originals (fresh_decoder c) originals ≡ o
        → result_and_then (λ now. with_recoveries now recovery) o ≡ Ok s → s.configuration ≡ c
    by_originals c (Ok now) first rest =
        kept-by (λ now item. with_recovery now item.0 item.1) recovery-kept recovery now s rest
        ∙ kept-by (λ now item. with_original now item.0 item.1) original-kept originals (fresh_decoder c) now first
    by_originals c (Err e) first rest = absurd (let no : ⊥ = cc in no)

    by_start : (c : Configuration) (o : Result (Unit {0}) Error)
        → result_and_then (λ _. with_both (fresh_decoder c) originals recovery) o ≡ Ok s → s.configuration ≡ c
    by_start c (Ok u) rest = by_originals c (with_originals (fresh_decoder c) originals) refl rest
    by_start c (Err e) rest = absurd (let no : ⊥ = cc in no)

    by_size : (size : Option ℕ) → receiving_outcome k r size originals recovery ≡ Ok s
        → (validation_outcome s.configuration ≡ Ok tt) × (s.configuration.original_count ≡ k)
    by_size None same = absurd (by_counts (counts_outcome k r) same)
    by_size (Some size) same =
        let c : Configuration = default_of k r size in
        let start = start_outcome (decoder_rows default_rate k r) c in
        let (valid, fits) = started-parts (decoder_rows default_rate k r) c (started-of start _ s same) in
        let kept : s.configuration ≡ default_of k r size = by_start c start same in (
          ap validation_outcome kept ∙ valid,
          ap (λ (d : Configuration). d.original_count) kept,
        )
