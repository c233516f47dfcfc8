-- The results of calls that add shards one after another.
use Rattle.std.specs.Prelude.{◌≡◌, ◌⊎◌, ℕ, Bool, false, List, [], ◌∷◌, length, count_by, nat_eq, slice_index_or, Option}
use Rattle.std.specs.Prelude.{Some, None, Result, Ok, Err, MatchResult}
use Rattle.std.specs.List.{list_any}
use Rattle.rs_field.specs.declared.code.error.Error.{Error}
use Rattle.rs_field.specs.code.Column.{Shard}
use Rattle.rs_field.specs.code.Decoder.{DecoderState}
use Rattle.rs_field.specs.code.Encoder.{EncoderState}
use Rattle.rs_field.specs.code.OneCall.{Items, LacksMemory, counts_outcome, originals_alone, encode_opening}
use Rattle.rs_field.specs.code.OneCall.{encoding_outcome, decode_opening, decoding_outcome}
use Rattle.rs_field.specs.code.Outcome.{result_and_then}

-- a result is that of an outcome: success, with the property P for the state of the outcome, or the error of the
-- outcome
abbrev pub Reaches : {S : Type 0} → Result S Error → Result (Unit {0}) Error → (S → Type 0) → Type 0
Reaches outcome result P = MatchResult outcome (λ s. (result ≡ Ok tt) × P s) (λ e. result ≡ Err e)

-- exactly the places of the indexes are true, and no index occurs twice
pub record AreNoted (indexes : List ℕ) (given : List Bool) : Type 0 where
  pub places : (i : ℕ) → slice_index_or given i false ≡ list_any (nat_eq i) indexes
  pub number : count_by (λ noted. noted) given ≡ length indexes

-- the result of adding originals to an encoder: the encoder, or the first error, or `OutOfMemory` if the checks before
-- the first allocation find no error
abbrev pub IsEncoding : ℕ → ℕ → List Shard → Result EncoderState Error → Type 0
IsEncoding k r shards result = (result ≡ encoding_outcome k r shards) ⊎ LacksMemory (encode_opening k r shards) result

-- the outcome of adding originals and recovery shards to a decoder: the decoder, or `None` if there is no recovery
-- shard and no original is missing, or the first error
abbrev pub received_outcome : ℕ → ℕ → Items → Items → Result (Option DecoderState) Error
received_outcome k r originals [] =
    result_and_then (λ _. Ok None) (result_and_then (λ _. originals_alone k originals) (counts_outcome k r))
received_outcome k r originals (first ∷ rest) =
    result_and_then (λ s. Ok (Some s)) (decoding_outcome k r originals first rest)

-- the result of adding originals and recovery shards to a decoder: its outcome, or `OutOfMemory` if the checks before
-- the first allocation find no error
abbrev pub IsDecoding : ℕ → ℕ → Items → Items → Result (Option DecoderState) Error → Type 0
IsDecoding k r originals recovery result =
    (result ≡ received_outcome k r originals recovery) ⊎ LacksMemory (decode_opening k r recovery) result
