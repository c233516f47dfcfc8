-- What `reconstruct` and `reconstruct_into` return for lists of received shards.
use Rattle.std.specs.Prelude.{◌≡◌, ◌⊎◌, ℕ, ◌+◌, ◌<◌, All, Bool, List, [], ◌∷◌, length, map, replicate, nat_le}
use Rattle.std.specs.Prelude.{nat_lt, is_some, if◌then◌else◌, Option, Some, None, Result, Ok, Err, IsOk, MatchResult}
use Rattle.std.specs.List.{list_any}
use Rattle.std.specs.Result.{result_map_both}
use Rattle.rs_field.specs.declared.code.error.Error.{Error}
use Rattle.rs_field.specs.declared.code.error.Error.TheVariants.{OutOfMemory}
use Rattle.rs_field.specs.code.Column.{Shard, shard_at}
use Rattle.rs_field.specs.code.Decoder.{DecoderState, IsAgreeing, missing_of, enough_given, NoneAgrees}
use Rattle.rs_field.specs.code.Given.{Shards, count_below, items_below}
use Rattle.rs_field.specs.code.OneCall.{Items}
use Rattle.rs_field.specs.code.Outcome.{result_and_then}
use Rattle.rs_field.specs.code.PieceStates.{shards_listed}
use Rattle.reed_solomon_simd.specs.declared.reconstruct_error.ReconstructError.{ReconstructError}
use Rattle.reed_solomon_simd.specs.declared.reconstruct_error.ReconstructError.TheVariants.{
  Refused,
  WantedIndexTooLarge,
}
use Rattle.reed_solomon_simd.specs.declared.reconstruct_error.ReconstructError.TheVariants.{WantedTwice, WantedReceived}
use Rattle.reed_solomon_simd.specs.declared.reconstruct_error.ReconstructError.TheVariants.{WrongNumberOfRooms}
use Rattle.reed_solomon_simd.specs.declared.reconstruct_error.ReconstructError.TheVariants.{WrongLength}
use Rattle.reed_solomon_simd.specs.declared.room_error.RoomError.{RoomError}
use Rattle.reed_solomon_simd.specs.declared.room_error.RoomError.TheVariants.{Refused as refused}
use Rattle.reed_solomon_simd.specs.declared.room_error.RoomError.TheVariants.{WrongNumberOfRooms as wrong_number}
use Rattle.reed_solomon_simd.specs.declared.room_error.RoomError.TheVariants.{WrongLength as wrong_length}
use Rattle.reed_solomon_simd.specs.declared.shard_index.ShardIndex.{ShardIndex}
use Rattle.reed_solomon_simd.specs.declared.shard_index.ShardIndex.TheVariants.{Original, Recovery}
use Rattle.reed_solomon_simd.specs.Into.{rooms_fit}
use Rattle.reed_solomon_simd.specs.ShardNames.{shard_named, index_of, is_same}
use Rattle.reed_solomon_simd.specs.Verified.{received_size, receiving_opening, receiving_outcome}

-- shards are the wanted ones, in order, of the only codeword that agrees with the shards of a decoder
pub record AreReconstructed (s : DecoderState) (wanted : List ShardIndex) (shards : List Shard) : Type 0 where
  pub message : List Shard
  pub agrees : IsAgreeing s message
  pub only : (other : List Shard) → IsAgreeing s other → other ≡ message
  pub named : shards ≡ map (shard_named message agrees.coded.0) wanted

-- the number of shards of a kind
abbrev pub count_of : DecoderState → ShardIndex → ℕ
count_of s (Original i) = s.configuration.original_count
count_of s (Recovery i) = s.configuration.recovery_count

-- the shard that was received with a name, if there is one
abbrev pub given_at : DecoderState → ShardIndex → Option Shard
given_at s (Original i) = s.originals i
given_at s (Recovery i) = s.recovery i

-- whether a shard was received
abbrev pub is_received : DecoderState → ShardIndex → Bool
is_received s (Original i) = is_some (s.originals i)
is_received s (Recovery i) = is_some (s.recovery i)

-- the outcome of checking wanted shards, after others: the index of each must be below the number of shards of its
-- kind, the shard must not be wanted before, and it must not have been received
abbrev pub wanted_outcome : DecoderState → List ShardIndex → List ShardIndex → Result (Unit {0}) ReconstructError
wanted_outcome s before [] = Ok tt
wanted_outcome s before (shard ∷ shards) =
    if nat_le (count_of s shard) (index_of shard) then Err (WantedIndexTooLarge shard (count_of s shard))
    else if list_any (is_same shard) before then Err (WantedTwice shard)
    else if is_received s shard then Err (WantedReceived shard)
    else wanted_outcome s (shard ∷ before) shards

-- a shard that was not received, so that received shards can rebuild it
abbrev pub CanBeRebuilt : DecoderState → ShardIndex → Type 0
CanBeRebuilt s (Original i) = (i < s.configuration.original_count) × (s.originals i ≡ None)
CanBeRebuilt s (Recovery i) = (i < s.configuration.recovery_count) × (s.recovery i ≡ None)

-- a missing original
abbrev pub IsMissing : DecoderState → ShardIndex → Type 0
IsMissing s shard =
    (i : ℕ) × (i < s.configuration.original_count) × (s.originals i ≡ None) × (shard ≡ Original i)

-- a list names the missing originals with indexes below n, in order of index
pub record NamesMissing (n : ℕ) (s : DecoderState) (wanted : List ShardIndex) : Type 0 where
  pub each : All (IsMissing s) wanted
  pub number : length wanted + count_below n s.originals ≡ n
  pub named : (message recovery : List Shard)
      → map (shard_named message recovery) wanted ≡ shards_listed (items_below n (missing_of s message))

-- the shard with a name, among restored originals by their index and a list of encoded recovery shards, if it is there
abbrev pub lent_at : Shards → List Shard → ShardIndex → Option Shard
lent_at restored encoded (Original i) = restored i
lent_at restored encoded (Recovery i) = if nat_lt i (length encoded) then Some (shard_at encoded i) else None

-- the error of rooms, as an error of reconstructing
abbrev pub of_rooms : RoomError → ReconstructError
of_rooms (refused error) = Refused error
of_rooms (wrong_number wanted got) = WrongNumberOfRooms wanted got
of_rooms (wrong_length wanted got) = WrongLength wanted got

-- the outcome of checking rooms for n shards of a size: first their number, and then the length of each
abbrev pub rooms_outcome : ℕ → List (List ℕ) → ℕ → Result (Unit {0}) ReconstructError
rooms_outcome n rooms size = result_map_both (λ u. u) of_rooms (rooms_fit (replicate n (replicate size 0)) rooms)

-- the outcome of the checks before shards are reconstructed: first whether enough shards were received, then the wanted
-- shards, and then `fit`, the outcome of checking rooms
abbrev pub ready_outcome : DecoderState → List ShardIndex → Result (Unit {0}) ReconstructError
    → Result (Unit {0}) ReconstructError
ready_outcome s wanted fit =
    result_and_then (λ _. result_and_then (λ _. fit) (wanted_outcome s [] wanted))
    (result_map_both (λ u. u) Refused (enough_given s))

-- what reconstructing from the shards of a decoder returns: the first error of the checks, the wanted shards, or
-- `InconsistentShards` if no message agrees
abbrev pub ReconstructAnswers : DecoderState → List ShardIndex → Result (Unit {0}) ReconstructError
    → Result (List Shard) ReconstructError → Type 0
ReconstructAnswers s wanted fit result =
    MatchResult (ready_outcome s wanted fit)
    (λ _. MatchResult result (AreReconstructed s wanted) (λ e. (f : Error) × NoneAgrees s f × (e ≡ Refused f)))
    (λ e. result ≡ Err e)

-- what reconstructing from the shards of a decoder returns, or `OutOfMemory`
abbrev pub Reconstructs : DecoderState → List ShardIndex → Result (Unit {0}) ReconstructError
    → Result (List Shard) ReconstructError → Type 0
Reconstructs s wanted fit result = ReconstructAnswers s wanted fit result ⊎ (result ≡ Err (Refused OutOfMemory))

-- the relation of received shards to the wanted ones: the error of collecting the received shards, what reconstructing
-- from them returns, or `OutOfMemory`; `fit` is the outcome of checking rooms for a size
abbrev pub OneReconstructs : ℕ → ℕ → Items → Items → List ShardIndex → (ℕ → Result (Unit {0}) ReconstructError)
    → Result (List Shard) ReconstructError → Type 0
OneReconstructs k r originals recovery wanted fit result =
    MatchResult (receiving_outcome k r (received_size originals recovery) originals recovery)
    (λ s. ReconstructAnswers s wanted (fit s.configuration.shard_bytes) result) (λ e. result ≡ Err (Refused e))
    ⊎ (IsOk (receiving_opening k r (received_size originals recovery)) × (result ≡ Err (Refused OutOfMemory)))

-- a call succeeds and its rooms hold these shards, or it returns the error and its rooms are unchanged
abbrev pub WritesShards : Result (List Shard) ReconstructError → List (List ℕ) → List (List ℕ)
    → Result (Unit {0}) ReconstructError → Type 0
WritesShards made old new answer =
    MatchResult made (λ shards. (answer ≡ Ok tt) × (new ≡ shards)) (λ e. (answer ≡ Err e) × (new ≡ old))

-- the result of reconstructing from the shards of a decoder into rooms: the wanted shards, in order
abbrev pub ReconstructsReceived : DecoderState → List ShardIndex → List (List ℕ) → List (List ℕ)
    → Result (Unit {0}) ReconstructError → Type 0
ReconstructsReceived s wanted old new answer =
    (made : Result (List Shard) ReconstructError)
    × Reconstructs s wanted (rooms_outcome (length wanted) old s.configuration.shard_bytes) made
    × WritesShards made old new answer

-- the result of `reconstruct_into`: the wanted shards, written into the rooms in order, or an error with unchanged
-- rooms
abbrev pub ReconstructsInto : ℕ → ℕ → Items → Items → List ShardIndex → List (List ℕ) → List (List ℕ)
    → Result (Unit {0}) ReconstructError → Type 0
ReconstructsInto k r originals recovery wanted old new answer =
    (made : Result (List Shard) ReconstructError)
    × OneReconstructs k r originals recovery wanted (rooms_outcome (length wanted) old) made
    × WritesShards made old new answer
