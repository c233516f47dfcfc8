-- Gathered originals: the encoder state that they represent, and the result of encoding them.
use Rattle.std.proofs.Common.{rules, ◌≡◌, ℕ, List, Ok, Err, Result, MatchResult, IfOk, inr, refl, ap, arith}
use Rattle.std.proofs.lemmas.List.{length-map}
use Rattle.rs_field.specs.declared.code.error.Error.{Error}
use Rattle.rs_field.specs.declared.code.error.Error.TheVariants.{OutOfMemory}
use Rattle.rs_field.specs.code.Code.{AreRecovery}
use Rattle.rs_field.specs.code.Column.{Shard}
use Rattle.rs_field.specs.code.Counts.{default_rate}
use Rattle.rs_field.specs.code.Encoder.{EncoderState, IsEncoder, message_of}
use Rattle.rs_field.specs.code.OneCall.{OneEncodeAnswers}
use Rattle.rs_field.specs.code.Outcome.{answer_of}
use Rattle.rs_field.specs.code.RoundTrip.{AreCoded}
use Rattle.rs_rate.specs.objects.Giving.{IsEncoding}
use Rattle.rs_field.proofs.code_lemmas.MadeShards.{has_recovery}
use Rattle.rs_rate.proofs.rows_lemmas.StateLemmas.{valid-supported, message-whole, encode_answers-refused}
use Rattle.rs_rate.proofs.rows_lemmas.StateLemmas.{encode_answers-made}
use Rattle.rs_rate.proofs.objects_lemmas.OneCall.{encoding-answers, encoding-opened, encoding-coded}
use Rattle.reed_solomon_simd.specs.declared.lent_originals.LentOriginals.{LentOriginals}
use Rattle.reed_solomon_simd.specs.LentState.{lent_state}
use Rattle.reed_solomon_simd.proofs.SetUp.{valid-even}

-- Gathered originals represent a state that an encoder can have.
pub gathered-is : (x : LentOriginals) → IsEncoder default_rate (lent_state x)
gathered-is x = search (rules, length-map)

-- An encoder with all its originals has recovery shards.
pub has-made : (s : EncoderState) → IsEncoder default_rate s → Ok tt ≡ answer_of (message_of s)
    → (recovery : List Shard) × AreRecovery s.configuration s.given recovery
has-made s is all =
    let whole = message-whole s all in
    let few = is.no_more in
    has_recovery s.configuration s.given (valid-supported s.configuration is.valid)
    (valid-even s.configuration is.valid)
    (record { length_is = omega (arith, few, whole.0); each = is.sized })

module _ (k r : ℕ) (shards : List Shard) (s : EncoderState) (is : IsEncoding k r shards (Ok s)) where
  -- If originals are missing, the error of the encoder is a result of one call.
  pub encoded-few : (e : Error) → Err e ≡ answer_of (message_of s) → OneEncodeAnswers k r shards (Err e)
  encoded-few e few = encoding-answers k r shards s is (Err e) (encode_answers-refused s e few)

  -- The result of encoding all originals is a result of one call.
  pub encoded-all : Ok tt ≡ answer_of (message_of s) → (result : Result (List Shard) Error)
      → MatchResult result (λ recovery. AreRecovery s.configuration s.given recovery) (λ e. e ≡ OutOfMemory)
      → OneEncodeAnswers k r shards result
  encoded-all all (Ok recovery) coded =
      encoding-answers k r shards s is (Ok recovery) (encode_answers-made s recovery all coded)
  encoded-all all (Err e) lacks = inr (encoding-opened k r shards s is, ap Err lacks)

  -- The recovery shards of all originals are the recovery shards of the code.
  pub encoded-coded : IsEncoder default_rate s → Ok tt ≡ answer_of (message_of s) → (result : Result (List Shard) Error)
      → MatchResult result (λ recovery. AreRecovery s.configuration s.given recovery) (λ e. e ≡ OutOfMemory)
      → IfOk result (AreCoded k r shards)
  encoded-coded valid all (Ok recovery) coded =
      encoding-coded k r shards s is valid recovery (Ok recovery) (encode_answers-made s recovery all coded) refl
  encoded-coded valid all (Err e) lacks = tt
