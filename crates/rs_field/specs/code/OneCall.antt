-- What the one-call functions return for lists of shards.
use Rattle.std.specs.Prelude.{◌≡◌, ℕ, List, [], ◌∷◌, ◌⊎◌, length, map, nat_le, nat_lt, nat_eq, if◌then◌else◌, Option}
use Rattle.std.specs.Prelude.{Result, Ok, Err, IsOk, MatchResult}
use Rattle.std.specs.BTreeMap.{BTreeMap, get}
use Rattle.std.specs.Borrow.{Bor}
use Rattle.std.specs.Iterator.{AlwaysYields}
use Rattle.std.specs.List.{list_any}
use Rattle.std.specs.Option.{option_map}
use Rattle.std.specs.Ordering.{nat_cmp}
use Rattle.std.specs.Result.{result_map_both}
use Rattle.std.specs.declared.vec.Vec.{Vec}
use Rattle.rs_field.specs.declared.code.error.Error.{Error}
use Rattle.rs_field.specs.declared.code.error.Error.TheVariants.{UnsupportedShardCount, TooFewOriginalShards}
use Rattle.rs_field.specs.declared.code.error.Error.TheVariants.{InvalidOriginalShardIndex, DuplicateOriginalShardIndex}
use Rattle.rs_field.specs.declared.code.error.Error.TheVariants.{NotEnoughShards, OutOfMemory}
use Rattle.rs_field.specs.code.Column.{Shard}
use Rattle.rs_field.specs.code.Counts.{default_rate, supports}
use Rattle.rs_field.specs.code.Frame.{encoder_rows, decoder_rows}
use Rattle.rs_field.specs.code.Outcome.{result_and_then}
use Rattle.rs_field.specs.code.Configuration.{Configuration, configuration, validation_outcome, start_outcome}
use Rattle.rs_field.specs.code.Given.{Shards, nothing}
use Rattle.rs_field.specs.code.Encoder.{EncoderState, fresh_encoder, with_shard, EncodeAnswers}
use Rattle.rs_field.specs.code.Decoder.{DecoderState, fresh_decoder, with_original, with_recovery, DecodeAnswers}

-- shards with their indexes
abbrev pub Items : Type 0
Items = List (ℕ × Shard)

-- the configuration with the default rate, k originals, r recovery shards and a size
abbrev pub default_of : ℕ → ℕ → ℕ → Configuration
default_of k r size = configuration default_rate k r size

-- success, or the error for counts that are not supported
abbrev pub counts_outcome : ℕ → ℕ → Result (Unit {0}) Error
counts_outcome k r = if supports default_rate k r then Ok tt else Err (UnsupportedShardCount k r)

-- the outcome of one call for each item, in order, up to the first error
abbrev pub one_by_one : {S T : Type 0} → (S → T → Result S Error) → S → List T → Result S Error
one_by_one call s [] = Ok s
one_by_one call s (item ∷ items) = result_and_then (λ next. one_by_one call next items) (call s item)

-- the outcome of adding shards in order
abbrev pub with_shards : EncoderState → List Shard → Result EncoderState Error
with_shards s shards = one_by_one with_shard s shards

-- the outcome of adding originals in order
abbrev pub with_originals : DecoderState → Items → Result DecoderState Error
with_originals s items = one_by_one (λ now item. with_original now item.0 item.1) s items

-- the outcome of adding recovery shards in order
abbrev pub with_recoveries : DecoderState → Items → Result DecoderState Error
with_recoveries s items = one_by_one (λ now item. with_recovery now item.0 item.1) s items

-- the outcome of adding originals in order, and then recovery shards in order
abbrev pub with_both : DecoderState → Items → Items → Result DecoderState Error
with_both s originals recoveries = result_and_then (λ now. with_recoveries now recoveries) (with_originals s originals)

-- the outcome of the checks that `encode` makes before it allocates: first the counts, then whether there is an
-- original, and then the size of the first original
abbrev pub encode_opening : ℕ → ℕ → List Shard → Result (Unit {0}) Error
encode_opening k r [] = result_and_then (λ _. Err (TooFewOriginalShards k 0)) (counts_outcome k r)
encode_opening k r (shard ∷ _) = validation_outcome (default_of k r (length shard))

-- the encoder after all shards were added, or the first error
abbrev pub encoding_outcome : ℕ → ℕ → List Shard → Result EncoderState Error
encoding_outcome k r [] = result_and_then (λ _. Err (TooFewOriginalShards k 0)) (counts_outcome k r)
encoding_outcome k r (shard ∷ shards) =
    let c = default_of k r (length shard) in
    result_and_then (λ _. with_shards (fresh_encoder c) (shard ∷ shards))
    (start_outcome (encoder_rows default_rate k r) c)

-- a result is `OutOfMemory`, and the checks before the first allocation find no error
abbrev pub LacksMemory : {T : Type 0} → Result (Unit {0}) Error → Result T Error → Type 0
LacksMemory opening result = IsOk opening × (result ≡ Err OutOfMemory)

-- the relation of the originals to the result of one-call `encode`: the recovery shards, the first error, or
-- `OutOfMemory`
abbrev pub OneEncodeAnswers : ℕ → ℕ → List Shard → Result (List Shard) Error → Type 0
OneEncodeAnswers k r shards result =
    MatchResult (encoding_outcome k r shards) (λ s. EncodeAnswers s result) (λ e. result ≡ Err e)
    ⊎ LacksMemory (encode_opening k r shards) result

-- the outcome of noting the index of an original: the index must be below k, and must not have been noted before
abbrev pub note_outcome : ℕ → List ℕ → ℕ → Result (List ℕ) Error
note_outcome k given index =
    if nat_le k index then Err (InvalidOriginalShardIndex k index)
    else if list_any (nat_eq index) given then Err (DuplicateOriginalShardIndex index)
    else Ok (index ∷ given)

-- the outcome of a decode without recovery shards: the index of each original is noted in order, and k indexes are
-- needed
abbrev pub originals_alone : ℕ → Items → Result (Unit {0}) Error
originals_alone k originals =
    result_and_then (λ given. if nat_lt (length given) k then Err (NotEnoughShards k (length given) 0) else Ok tt)
    (one_by_one (λ given item. note_outcome k given item.0) [] originals)

-- the outcome of the checks that `decode` makes before it allocates: first the counts, and then the size of the first
-- recovery shard
abbrev pub decode_opening : ℕ → ℕ → Items → Result (Unit {0}) Error
decode_opening k r [] = counts_outcome k r
decode_opening k r (item ∷ _) = validation_outcome (default_of k r (length item.1))

-- the decoder after the originals and then the recovery shards were added, or the first error
abbrev pub decoding_outcome : ℕ → ℕ → Items → ℕ × Shard → Items → Result DecoderState Error
decoding_outcome k r originals first rest =
    let c = default_of k r (length first.1) in
    result_and_then (λ _. with_both (fresh_decoder c) originals (first ∷ rest))
    (start_outcome (decoder_rows default_rate k r) c)

-- the relation of received shards to the result of one-call `decode` if memory can be allocated
abbrev pub OneDecodes : ℕ → ℕ → Items → Items → Result Shards Error → Type 0
OneDecodes k r originals [] result =
    MatchResult (result_and_then (λ _. originals_alone k originals) (counts_outcome k r))
    (λ _. result ≡ Ok nothing) (λ e. result ≡ Err e)
OneDecodes k r originals (first ∷ rest) result =
    MatchResult (decoding_outcome k r originals first rest) (λ s. DecodeAnswers s result) (λ e. result ≡ Err e)

-- the relation of received shards to the result of one-call `decode`: the restored originals, the first error, or
-- `OutOfMemory`
abbrev pub OneDecodeAnswers : ℕ → ℕ → Items → Items → Result Shards Error → Type 0
OneDecodeAnswers k r originals recovery result =
    OneDecodes k r originals recovery result ⊎ LacksMemory (decode_opening k r recovery) result

-- each run of the iterator yields these shards, and then ends
abbrev pub Lends : {I : Type 0} → (I → Option (Bor Shard) → I → Type 0) → I → List Shard → Type 0
Lends next iterator shards = AlwaysYields next (λ shard. shard.now) iterator shards

-- each run of the iterator yields these shards with their indexes, and then ends
abbrev pub LendsItems : {I : Type 0} → (I → Option (ℕ × Bor Shard) → I → Type 0) → I → Items → Type 0
LendsItems next iterator items = AlwaysYields next (λ item. (item.0, item.1.now)) iterator items

-- the vectors of a result as shards, or the error
abbrev pub collected_shards : {Y Z : Type 0} → Result (Vec (Vec ℕ Y) Z) Error → Result (List Shard) Error
collected_shards result = result_map_both (λ vectors. map (λ v. v.items) vectors.items) (λ e. e) result

-- the vectors of a map as shards, by their index
abbrev pub shards_in : {Y : Type 0} → BTreeMap ℕ (Vec ℕ Y) → Shards
shards_in vectors = λ i. option_map (λ v. v.items) (get nat_cmp vectors i)

-- the vectors of a result as shards by their index, or the error
abbrev pub collected_map : {Y : Type 0} → Result (BTreeMap ℕ (Vec ℕ Y)) Error → Result Shards Error
collected_map result = result_map_both shards_in (λ e. e) result
