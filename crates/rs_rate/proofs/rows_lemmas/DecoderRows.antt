-- Whether a decoder has enough shards, what `decode` returns, and the state after `decode`.
use Rattle.std.proofs.Common.{rules, ◌≡◌, ℕ, ◌+◌, ◌<◌, ◌≤◌, refl, sym, ap, subst}
use Rattle.std.proofs.lemmas.Bool.{lt-ltb, le-ltb}
use Rattle.std.specs.Prelude.{Result, Ok, Err, is_ok, cond, MatchResult}
use Rattle.std.specs.Result.{result_map_both}
use Rattle.rs_field.specs.declared.code.error.Error.{Error}
use Rattle.rs_field.specs.code.Given.{Shards}
use Rattle.rs_field.specs.code.Decoder.{DecoderState, fresh_decoder, enough_given, Restored, NoneAgrees, DecodeAnswers}
use Rattle.rs_field.specs.code.Decoder.{after_decode, originals_given, recovery_given}
use Rattle.rs_field.specs.declared.code.error.Error.TheVariants.{NotEnoughShards}

-- The outcome of the check for enough shards, from the numbers of given shards.
pub enough-few : (s : DecoderState) (o r : ℕ) → o ≡ originals_given s → r ≡ recovery_given s
    → o + r < s.configuration.original_count
    → enough_given s ≡ Err (NotEnoughShards s.configuration.original_count o r)
enough-few s o r originals recovery few =
    rw (← originals, ← recovery, lt-ltb (o + r) s.configuration.original_count few) refl

pub enough-many : (s : DecoderState) (o r : ℕ) → o ≡ originals_given s → r ≡ recovery_given s
    → s.configuration.original_count ≤ o + r → enough_given s ≡ Ok tt
enough-many s o r originals recovery many =
    rw (← originals, ← recovery, le-ltb (o + r) s.configuration.original_count many) refl

-- A decoder that has enough shards has at least as many shards as originals.
pub enough-least : (s : DecoderState) → Ok tt ≡ enough_given s
    → s.configuration.original_count ≤ originals_given s + recovery_given s
enough-least s made = search rules

-- The state after `decode` and the result of `decode`, by whether enough shards were added.
abbrev LeftBy : DecoderState → Result (Unit {0}) Error → DecoderState
LeftBy s enough = cond (is_ok enough) (fresh_decoder s.configuration) s

abbrev AnswersBy : DecoderState → Result (Unit {0}) Error → Result Shards Error → Type 0
AnswersBy s enough result =
    MatchResult enough (λ _. MatchResult result (Restored s) (NoneAgrees s)) (λ e. result ≡ Err e)

-- If too few shards were added, `decode` does not change the state.
pub after_decode-refused : (s : DecoderState) (e : Error) → Err e ≡ enough_given s → s ≡ after_decode s
after_decode-refused s e refused = ap (LeftBy s) refused

pub decode_answers-refused : (s : DecoderState) (e : Error) → Err e ≡ enough_given s → DecodeAnswers s (Err e)
decode_answers-refused s e refused = subst (λ enough. AnswersBy s enough (Err e)) refused refl

-- If enough shards were added, the state after `decode` has no shards.
pub after_decode-made : (s : DecoderState) → Ok tt ≡ enough_given s → after_decode s ≡ fresh_decoder s.configuration
after_decode-made s made = sym (ap (LeftBy s) made)

pub decode_answers-made : (s : DecoderState) (out : Shards) (told : Result ℕ Error) → Ok tt ≡ enough_given s
    → MatchResult told (λ _. Restored s out) (NoneAgrees s)
    → DecodeAnswers s (result_map_both (λ _. out) (λ e. e) told)
decode_answers-made s out (Ok count) made restored = subst (λ enough. AnswersBy s enough (Ok out)) made restored
decode_answers-made s out (Err e) made none = subst (λ enough. AnswersBy s enough (Err e)) made none
