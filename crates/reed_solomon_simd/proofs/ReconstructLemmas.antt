-- From the checks and the rebuilt shards to the result of `reconstruct`.
use Rattle.std.proofs.Common.{rules, ◌≡◌, ℕ, List, [], length, All, replicate, Result, Ok, Err, false, refl, ap, ◌∙◌}
use Rattle.std.proofs.Common.{subst, inl, inr}
use Rattle.std.specs.Prelude.{◌⊎◌, MatchResult}
use Rattle.std.specs.Result.{result_map_both}
use Rattle.std.proofs.lemmas.List.{length-replicate, get_or-replicate}
use Rattle.rs_field.specs.declared.code.error.Error.{Error}
use Rattle.rs_field.specs.declared.code.error.Error.TheVariants.{UnsupportedShardCount, OutOfMemory}
use Rattle.rs_field.specs.code.Column.{Shard}
use Rattle.rs_field.specs.code.Counts.{default_rate, supports}
use Rattle.rs_field.specs.code.Decoder.{DecoderState, enough_given, NoneAgrees}
use Rattle.rs_field.specs.code.OneCall.{Items}
use Rattle.rs_field.specs.code.Outcome.{result_and_then}
use Rattle.reed_solomon_simd.specs.declared.reconstruct_error.ReconstructError.{ReconstructError}
use Rattle.reed_solomon_simd.specs.declared.reconstruct_error.ReconstructError.TheVariants.{Refused}
use Rattle.reed_solomon_simd.specs.declared.shard_index.ShardIndex.{ShardIndex}
use Rattle.reed_solomon_simd.specs.Reconstructed.{AreReconstructed, wanted_outcome, ready_outcome, ReconstructAnswers}
use Rattle.reed_solomon_simd.specs.Reconstructed.{OneReconstructs, Reconstructs}
use Rattle.reed_solomon_simd.specs.Verified.{IsReceiving}
use Rattle.reed_solomon_simd.proofs.VerifyingLemmas.{receiving-outcome, receiving-opened}

module _ (k r : ℕ) (originals recovery : Items) (wanted : List ShardIndex)
    (fit : ℕ → Result (Unit {0}) ReconstructError) where
  -- If the counts are not supported, reconstructing fails with their error.
  pub reconstructs-uncounted : (e : Error) → (supports default_rate k r ≡ false) × (e ≡ UnsupportedShardCount k r)
      → OneReconstructs k r originals recovery wanted fit (Err (Refused e))
  reconstructs-uncounted e refused = search rules

  -- An error of collecting the shards is an error of reconstructing.
  pub reconstructs-refused : (e : Error) → IsReceiving k r originals recovery (Err e)
      → OneReconstructs k r originals recovery wanted fit (Err (Refused e))
  reconstructs-refused e (inl same) =
      inl (subst (λ (o : Result DecoderState Error).
      MatchResult o (λ s. ReconstructAnswers s wanted (fit s.configuration.shard_bytes) (Err (Refused e)))
      (λ f. ◌≡◌ {A = Result (List Shard) ReconstructError} (Err (Refused e)) (Err (Refused f)))) same refl)
  reconstructs-refused e (inr lacks) =
      let refused = lacks.1 in
      let same : e ≡ OutOfMemory = cc in
      inr (lacks.0, ap (λ (x : Error). Err (Refused x)) same)

  -- The result of reconstructing from the decoder to which the received shards were added is the result of one call.
  pub reconstructs-given : (s : DecoderState) → IsReceiving k r originals recovery (Ok s)
      → (result : Result (List Shard) ReconstructError)
      → Reconstructs s wanted (fit s.configuration.shard_bytes) result
      → OneReconstructs k r originals recovery wanted fit result
  reconstructs-given s is result (inl answers) =
      inl (subst (λ (o : Result DecoderState Error).
      MatchResult o (λ s. ReconstructAnswers s wanted (fit s.configuration.shard_bytes) result)
      (λ f. result ≡ Err (Refused f))) (receiving-outcome k r originals recovery s is) answers)
  reconstructs-given s is result (inr lacks) = inr (receiving-opened k r originals recovery s is, lacks)

  -- `OutOfMemory` after the received shards were collected is a result of one call.
  pub reconstructs-lacking : (s : DecoderState) → IsReceiving k r originals recovery (Ok s) → (e : Error)
      → e ≡ OutOfMemory → OneReconstructs k r originals recovery wanted fit (Err (Refused e))
  reconstructs-lacking s is e lacks =
      reconstructs-given s is (Err (Refused e)) (inr (ap (λ (x : Error). Err (Refused x)) lacks))

module _ (s : DecoderState) (wanted : List ShardIndex) (fit : Result (Unit {0}) ReconstructError) where
  -- `OutOfMemory` of the check of the wanted shards is a result of reconstructing.
  pub rebuilds-lacking : (e : ReconstructError)
      → ◌≡◌ {A = Result (Unit {0}) ReconstructError} (Err e) (Err (Refused OutOfMemory))
      → Reconstructs s wanted fit (Err e)
  rebuilds-lacking e lacks = let same : e ≡ Refused OutOfMemory = cc in inr (ap Err same)

  -- The result for an outcome of the checks.
  by_ready : (result : Result (List Shard) ReconstructError) (o : Result (Unit {0}) ReconstructError)
      → o ≡ ready_outcome s wanted fit
      → MatchResult o (λ _. MatchResult result (AreReconstructed s wanted)
      (λ e. (f : Error) × NoneAgrees s f × (e ≡ Refused f))) (λ e. result ≡ Err e)
      → Reconstructs s wanted fit result
  by_ready result o ready says = search rules

  -- The outcome of the checks, from the outcome of the check for enough shards.
  abbrev after_enough : Result (Unit {0}) Error → Result (Unit {0}) ReconstructError
  after_enough enough =
      result_and_then (λ _. result_and_then (λ _. fit) (wanted_outcome s [] wanted))
      (result_map_both (λ u. u) Refused enough)

  -- The error of too few shards is a result of reconstructing.
  pub rebuilds-few : (e : Error) → Err e ≡ enough_given s → Reconstructs s wanted fit (Err (Refused e))
  rebuilds-few e few = by_ready (Err (Refused e)) (Err (Refused e)) (ap after_enough few) refl

  module _ (enough : Ok tt ≡ enough_given s) where
    -- The error of a wanted shard is a result of reconstructing.
    pub rebuilds-unwanted : (e : ReconstructError) → Err e ≡ wanted_outcome s [] wanted
        → Reconstructs s wanted fit (Err e)
    rebuilds-unwanted e refused =
        by_ready (Err e) (Err e)
        (ap (result_and_then (λ (u : Unit {0}). fit)) refused ∙ ap after_enough enough) refl

    module _ (can : Ok tt ≡ wanted_outcome s [] wanted) where
      -- The outcome of the checks is that of the rooms.
      by_fit : (o : Result (Unit {0}) ReconstructError) → o ≡ fit → o ≡ ready_outcome s wanted fit
      by_fit o is = is ∙ ap (result_and_then (λ (u : Unit {0}). fit)) can ∙ ap after_enough enough

      -- The error of the rooms is a result of reconstructing.
      pub rebuilds-misfit : (e : ReconstructError) → Err e ≡ fit → Reconstructs s wanted fit (Err e)
      rebuilds-misfit e refused = by_ready (Err e) (Err e) (by_fit (Err e) refused) refl

      -- Rebuilt shards, or the error of rebuilding them, are a result of reconstructing.
      pub rebuilds-made : Ok tt ≡ fit → (result : Result (List Shard) Error)
          → MatchResult result (AreReconstructed s wanted) (λ e. NoneAgrees s e ⊎ (e ≡ OutOfMemory))
          → Reconstructs s wanted fit (result_map_both (λ x. x) Refused result)
      rebuilds-made fits (Ok shards) made = by_ready (Ok shards) (Ok tt) (by_fit (Ok tt) fits) made
      rebuilds-made fits (Err e) (inl none) =
          by_ready (Err (Refused e)) (Ok tt) (by_fit (Ok tt) fits) (e, none, refl)
      rebuilds-made fits (Err e) (inr lacks) = inr (ap (λ (x : Error). Err (Refused x)) lacks)

-- As many shards of zeros as are wanted, each of the size.
abbrev pub zeros : ℕ → ℕ → List Shard
zeros n size = replicate n (replicate {A = ℕ} size 0)

pub zeros-number : (n size : ℕ) → length (zeros n size) ≡ n
zeros-number n size = length-replicate n (replicate {A = ℕ} size 0)

pub zeros-sized : (n size : ℕ) → All (λ shard. length shard ≡ size) (zeros n size)
zeros-sized n size i d h = search (rules, get_or-replicate, length-replicate)

-- If a check can only fail because memory is short, and it succeeds, its outcome is a success.
pub was-checked : (o : Result (Unit {0}) ReconstructError) (e : ReconstructError)
    → (◌≡◌ {A = Result (Unit {0}) ReconstructError} (Ok tt) o)
    ⊎ (◌≡◌ {A = Result (Unit {0}) ReconstructError} (Ok tt) (Err e))
    → ◌≡◌ {A = Result (Unit {0}) ReconstructError} (Ok tt) o
was-checked o e (inl same) = same
was-checked o e (inr lacks) = absurd (let no : ⊥ = cc in no)
