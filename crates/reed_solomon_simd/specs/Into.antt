-- The results of the calls that write into memory of the caller.
use Rattle.std.specs.Prelude.{◌≡◌, ◌⊎◌, ℕ, ◌==◌, List, [], ◌∷◌, length, map, if◌then◌else◌, Result, Ok, Err}
use Rattle.std.specs.Prelude.{MatchResult}
use Rattle.rs_field.specs.declared.code.error.Error.{Error}
use Rattle.rs_field.specs.code.Column.{Shard}
use Rattle.rs_field.specs.declared.code.error.Error.TheVariants.{OutOfMemory}
use Rattle.rs_field.specs.code.Decoder.{DecoderState, DecodeAnswers}
use Rattle.rs_field.specs.code.Outcome.{result_and_then}
use Rattle.rs_field.specs.code.Given.{Shards, Lists}
use Rattle.rs_field.specs.code.OneCall.{Items, OneEncodeAnswers, OneDecodeAnswers}
use Rattle.reed_solomon_simd.specs.declared.room_error.RoomError.{RoomError}
use Rattle.reed_solomon_simd.specs.declared.room_error.RoomError.TheVariants.{Refused, WrongLength, WrongNumberOfRooms}

-- the result of checking that there are as many rooms as shards to write: a success, or an error with both numbers
abbrev pub as_many : ℕ → ℕ → Result (Unit {0}) RoomError
as_many wanted got = if wanted == got then Ok tt else Err (WrongNumberOfRooms wanted got)

-- the result of checking that each room is as long as its shard: a success, or an error with both lengths for the first
-- room that is not
abbrev pub lengths_fit : List Shard → List (List ℕ) → Result (Unit {0}) RoomError
lengths_fit [] rooms = Ok tt
lengths_fit (shard ∷ shards) [] = Ok tt
lengths_fit (shard ∷ shards) (room ∷ rooms) =
    if length room == length shard then lengths_fit shards rooms else Err (WrongLength (length shard) (length room))

-- the result of checking that rooms fit shards: first their number, and then the length of each
abbrev pub rooms_fit : List Shard → List (List ℕ) → Result (Unit {0}) RoomError
rooms_fit shards rooms = result_and_then (λ _. lengths_fit shards rooms) (as_many (length shards) (length rooms))

-- a call succeeds and its rooms hold these shards, or the rooms do not fit the shards, the call fails and the rooms are
-- unchanged
abbrev pub Fills : List Shard → List (List ℕ) → List (List ℕ) → Result (Unit {0}) RoomError → Type 0
Fills shards old new answer =
    MatchResult (rooms_fit shards old) (λ _. (answer ≡ Ok tt) × (new ≡ shards)) (λ e. (answer ≡ Err e) × (new ≡ old))

-- the result of `encode_into`: the result of `encode` for these originals, written into the rooms
abbrev pub EncodesInto : ℕ → ℕ → List Shard → List (List ℕ) → List (List ℕ) → Result (Unit {0}) RoomError → Type 0
EncodesInto k r originals old new answer =
    (coded : Result (List Shard) Error) × OneEncodeAnswers k r originals coded
    × MatchResult coded (λ shards. Fills shards old new answer) (λ e. (answer ≡ Err (Refused e)) × (new ≡ old))

-- the result of `decode_into`: the result of `decode` for these shards. The restored originals are written into the
-- rooms, in order of index
abbrev pub DecodesInto : ℕ → ℕ → Items → Items → List (List ℕ) → List (List ℕ) → Result (Unit {0}) RoomError → Type 0
DecodesInto k r originals recovery old new answer =
    (decoded : Result Shards Error) × OneDecodeAnswers k r originals recovery decoded
    × MatchResult decoded
    (λ restored. (items : Items) × Lists restored items × Fills (map (λ item. item.1) items) old new answer)
    (λ e. (answer ≡ Err (Refused e)) × (new ≡ old))

-- the result of writing the missing originals of a decoder into rooms: the result of its decode, or `OutOfMemory`
abbrev pub RestoresInto : DecoderState → List (List ℕ) → List (List ℕ) → Result (Unit {0}) RoomError → Type 0
RestoresInto s old new answer =
    (decoded : Result Shards Error) × (DecodeAnswers s decoded ⊎ (decoded ≡ Err OutOfMemory))
    × MatchResult decoded
    (λ restored. (items : Items) × Lists restored items × Fills (map (λ item. item.1) items) old new answer)
    (λ e. (answer ≡ Err (Refused e)) × (new ≡ old))
