-- What `verify` returns for shards of one message, and for changed shards.
use Rattle.std.proofs.Common.{◌≡◌, ℕ, ◌+◌, ◌<◌, ◌≤◌, Bool, true, false, List, length, Result, Ok, Err, refl, sym, ap}
use Rattle.std.proofs.Common.{ap₂, ◌∙◌, subst, inl, inr, arith}
use Rattle.std.specs.Prelude.{◌⊎◌, MatchResult, nat_lt}
use Rattle.std.proofs.lemmas.Bool.{le-ltb, lt-ltb}
use Rattle.reed_solomon_simd.specs.declared.Error.{Error}
use Rattle.reed_solomon_simd.specs.declared.Error.TheVariants.{OutOfMemory, InconsistentShards}
use Rattle.reed_solomon_simd.specs.Code.{AreRecovery}
use Rattle.reed_solomon_simd.specs.Column.{Shard, AreShards}
use Rattle.reed_solomon_simd.specs.Configuration.{validation_outcome}
use Rattle.reed_solomon_simd.specs.Decoder.{DecoderState, originals_given, recovery_given, IsConsistent, NoneAgrees}
use Rattle.reed_solomon_simd.specs.OneCall.{Items, default_of}
use Rattle.reed_solomon_simd.specs.RoundTrip.{AreCoded, AreLeft, enough_left}
use Rattle.reed_solomon_simd.specs.Verified.{received_size, receiving_outcome, VerifyAnswers, OneVerifies}
use Rattle.reed_solomon_simd.proofs.CallerLemmas.{valid-some}
use Rattle.reed_solomon_simd.proofs.SetUp.{valid-even}
use Rattle.reed_solomon_simd.proofs.VerifyingLemmas.{received-configured}
use Rattle.rs_field.proofs.code_lemmas.Changes.{changes_noticed}
use Rattle.reed_solomon_simd.proofs.StateLemmas.{valid-supported}
use Rattle.rs_examples.specs.Losing.{changed_count}
use Rattle.rs_examples.proofs.LeftReceived.{unless_few, left_state, left_agrees, left_enough, received-left}

module _ {k r : ℕ} {originals recovery : List Shard} {kept received : Items} (was : AreCoded k r originals recovery)
    (left : AreLeft originals kept) (got : AreLeft recovery received) where
  -- The decoder with the shards that are left.
  abbrev state : DecoderState
  state = left_state was left got

  module _ {result : Result (Unit {0}) Error} where
    by_state : VerifyAnswers state result
        → (result ≡ enough_left k kept received) ⊎ (result ≡ Err OutOfMemory)
    by_state answers =
        by_test (nat_lt (length kept + length received) k) refl
        (subst (λ (o : Result (Unit {0}) Error).
        MatchResult o (λ _. MatchResult result (λ _. IsConsistent state) (NoneAgrees state)) (λ e. result ≡ Err e))
        (left_enough was left got) answers)
      where
        by_result : (x : Result (Unit {0}) Error) → MatchResult x (λ _. IsConsistent state) (NoneAgrees state)
            → x ≡ Ok tt
        by_result (Ok u) says = refl
        by_result (Err e) none =
            absurd (none.none (originals, left_agrees was left got))

        by_test : (few : Bool) → nat_lt (length kept + length received) k ≡ few
            → MatchResult (unless_few k (length kept) (length received) few)
            (λ _. MatchResult result (λ _. IsConsistent state) (NoneAgrees state)) (λ e. result ≡ Err e)
            → (result ≡ enough_left k kept received) ⊎ (result ≡ Err OutOfMemory)
        by_test true few says = inl (says ∙ sym (ap (unless_few k (length kept) (length received)) few))
        by_test false few says = inl
            (by_result result says ∙ sym (ap (unless_few k (length kept) (length received)) few))

    -- If each shard that is left belongs to a codeword, `verify` succeeds, or fails because too few shards are left or
    -- memory cannot be allocated.
    pub codeword_passes : OneVerifies k r kept received result
        → (result ≡ enough_left k kept received) ⊎ (result ≡ Err OutOfMemory)
    codeword_passes (inr lacks) = inr lacks.1
    codeword_passes (inl answers) =
        elim (received-left was left got (λ s. VerifyAnswers s result) (λ e. result ≡ Err e) answers) [
          | inl some ↦ elim some [ inl says ↦ by_state says | inr short ↦ inr short ]
          | inr none ↦
              let (few, no_kept, no_received) = none in
              inl (few
              ∙ sym (ap (unless_few k 0 0) (lt-ltb 0 k (valid-some (default_of k r was.size) was.valid)))
              ∙ sym (ap₂ (λ (a b : Items). enough_left k a b) no_kept no_received))
        ]

-- If some shards differ from a codeword, but at most as many as there are shards beyond the number of originals,
-- `verify` fails.
pub changes_found : {k : ℕ} (r : ℕ) (kept received : Items) {s : DecoderState} {message all : List Shard}
    {result : Result (Unit {0}) Error}
    → receiving_outcome k r (received_size kept received) kept received ≡ Ok s
    → AreShards k s.configuration.shard_bytes message → AreRecovery s.configuration message all
    → 0 < changed_count s message all → changed_count s message all + k ≤ originals_given s + recovery_given s
    → OneVerifies k r kept received result
    → (result ≡ Err (InconsistentShards (originals_given s) (recovery_given s))) ⊎ (result ≡ Err OutOfMemory)
changes_found r kept received taken are coded some few (inr lacks) = inr lacks.1
changes_found {k = k} r kept received {s = s} {message = message} {all = all} {result = result} taken are coded some few
    (inl answers) =
    let (valid, count) = received-configured k r kept received s taken in
    let says : VerifyAnswers s result =
    subst (λ (o : Result DecoderState Error). MatchResult o (λ s. VerifyAnswers s result) (λ e. result ≡ Err e)) taken
    answers in
    let many : nat_lt (originals_given s + recovery_given s) s.configuration.original_count ≡ false =
    le-ltb (originals_given s + recovery_given s) s.configuration.original_count (omega (arith, few, count)) in
    by_result valid count result
    (subst (λ (b : Bool).
    MatchResult (unless_few s.configuration.original_count (originals_given s) (recovery_given s) b)
    (λ _. MatchResult result (λ _. IsConsistent s) (NoneAgrees s)) (λ e. result ≡ Err e)) many says)
  where
    by_result : validation_outcome s.configuration ≡ Ok tt → s.configuration.original_count ≡ k
        → (x : Result (Unit {0}) Error) → MatchResult x (λ _. IsConsistent s) (NoneAgrees s)
        → (x ≡ Err (InconsistentShards (originals_given s) (recovery_given s))) ⊎ (x ≡ Err OutOfMemory)
    by_result valid count (Ok u) consistent =
        absurd (changes_noticed s.configuration message all s.originals s.recovery
        (valid-supported s.configuration valid) (valid-even s.configuration valid)
        (subst (λ (n : ℕ). AreShards n s.configuration.shard_bytes message) (sym count) are) coded some
        (omega (arith, few, count)) consistent)
    by_result valid count (Err e) none = inl (ap Err none.refusal)
