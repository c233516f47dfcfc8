-- Shards anywhere in memory, and rooms for the shards that a call writes.
use Rattle.std.specs.Prelude.{
  ◌≡◌,
  ℕ,
  ◌==◌,
  List,
  [],
  ◌∷◌,
  ◌++◌,
  length,
  map,
  if◌then◌else◌,
  Result,
  Ok,
  Err,
  MatchResult,
}
use Rattle.std.specs.Borrow.{Bor, MutBor}
use Rattle.rs_field.specs.declared.code.error.Error.{Error}
use Rattle.rs_field.specs.code.Column.{Shard}
use Rattle.rs_field.specs.code.Outcome.{result_and_then}
use Rattle.rs_field.specs.code.Given.{Shards, Lists}
use Rattle.rs_field.specs.code.OneCall.{Items, OneEncodeAnswers, OneDecodeAnswers}
use Rattle.rs_ffi.specs.declared.fault.Fault.{Fault}
use Rattle.rs_ffi.specs.declared.fault.Fault.TheVariants.{WrongLength, WrongNumberOfRooms}
use Rattle.std.specs.Result.{result_map_both}
use Rattle.reed_solomon_simd.specs.declared.reconstruct_error.ReconstructError.{ReconstructError}
use Rattle.reed_solomon_simd.specs.declared.shard_index.ShardIndex.{ShardIndex}
use Rattle.reed_solomon_simd.specs.Reconstructed.{ReconstructsInto}
use Rattle.reed_solomon_simd.specs.Verified.{OneVerifies}
use Rattle.rs_ffi.specs.Faults.{named}
use Rattle.reed_solomon_simd.specs.declared.room_error.RoomError.{RoomError}
use Rattle.reed_solomon_simd.specs.Updated.{UpdatesInto}
use Rattle.rs_ffi.specs.Places.{place_of_other, placed, placed_refusal, placed_reconstruct}
use Rattle.rs_ffi.specs.declared.layouts.RsShard.{RsShard}
use Rattle.rs_ffi.specs.declared.layouts.RsWanted.{RsWanted}

-- the shards to which the references of an array point
abbrev pub shards_of : List (Bor Shard) → List Shard
shards_of array = map (λ shard. shard.now) array

-- the shards to which the items of an array point, with their indexes
abbrev pub items_of : List RsShard → Items
items_of array = map (λ shard. (shard.index, shard.bytes.now)) array

-- the bytes that rooms hold
abbrev pub bytes_in : List (MutBor (List ℕ)) → List (List ℕ)
bytes_in rooms = map (λ room. room.now) rooms

-- an array still points to the same rooms
abbrev pub KeepsRooms : List (MutBor (List ℕ)) → List (MutBor (List ℕ)) → Type 0
KeepsRooms old new = map (λ room. room.ref_ptr) new ≡ map (λ room. room.ref_ptr) old

-- the result of checking that there are as many rooms as shards to write: a success, or a fault with both numbers
abbrev pub as_many : ℕ → ℕ → Result (Unit {0}) Fault
as_many wanted got = if wanted == got then Ok tt else Err (WrongNumberOfRooms wanted got)

-- the result of checking that each room is as long as its shard: a success, or a fault for the first room that is not,
-- with both lengths, and with the place of the first of all rooms that does not have the length of the shard
abbrev pub lengths_fit : List (List ℕ) → List Shard → List (List ℕ) → Result (Unit {0}) Fault
lengths_fit all [] rooms = Ok tt
lengths_fit all (shard ∷ shards) [] = Ok tt
lengths_fit all (shard ∷ shards) (room ∷ rooms) =
    if length room == length shard then lengths_fit all shards rooms
    else Err (WrongLength (length shard) (length room) (place_of_other (length shard) all))

-- the result of checking that rooms fit shards: first their number, and then the length of each
abbrev pub rooms_fit : List Shard → List (List ℕ) → Result (Unit {0}) Fault
rooms_fit shards rooms = result_and_then (λ _. lengths_fit rooms shards rooms) (as_many (length shards) (length rooms))

-- a call succeeds and its rooms hold these shards, or the rooms do not fit the shards, the call fails and the rooms are
-- unchanged
abbrev pub Fills : List Shard → List (List ℕ) → List (List ℕ) → Result (Unit {0}) Fault → Type 0
Fills shards old new answer =
    MatchResult (rooms_fit shards old) (λ _. (answer ≡ Ok tt) × (new ≡ shards))
    (λ fault. (answer ≡ Err fault) × (new ≡ old))

-- the result of an encode over arrays: the result of one-call `encode` for these originals, written into the rooms. The
-- fault of an original of another size says its place
abbrev pub EncodesArrays : ℕ → ℕ → List Shard → List (List ℕ) → List (List ℕ) → Result (Unit {0}) Fault → Type 0
EncodesArrays k r originals old new answer =
    (coded : Result (List Shard) Error) × OneEncodeAnswers k r originals coded
    × MatchResult coded (λ shards. Fills shards old new answer)
    (λ e. (answer ≡ Err (placed_refusal originals e)) × (new ≡ old))

-- the shards of items with indexes
abbrev pub shards_in : Items → List Shard
shards_in items = map (λ item. item.1) items

-- the result of a decode over arrays: the result of one-call `decode` for these shards. The restored originals are
-- written into the rooms, in order of index. The fault of a shard of another size says its place: the places of
-- recovery shards come after those of the originals
abbrev pub DecodesArrays : ℕ → ℕ → Items → Items → List (List ℕ) → List (List ℕ) → Result (Unit {0}) Fault → Type 0
DecodesArrays k r originals recovery old new answer =
    (decoded : Result Shards Error) × OneDecodeAnswers k r originals recovery decoded
    × MatchResult decoded
    (λ restored. (items : Items) × Lists restored items × Fills (shards_in items) old new answer)
    (λ e. (answer ≡ Err (placed_refusal (shards_in originals ++ shards_in recovery) e)) × (new ≡ old))

-- the names of wanted shards
abbrev pub wanted_of : List RsWanted → List ShardIndex
wanted_of array = map (λ shard. named shard.kind shard.index) array

-- the result of verifying arrays: the result of `verify` for these shards. The fault of a shard of another size says
-- its place: the places of recovery shards come after those of the originals
abbrev pub VerifiesArrays : ℕ → ℕ → Items → Items → Result (Unit {0}) Fault → Type 0
VerifiesArrays k r originals recovery answer =
    (verified : Result (Unit {0}) Error) × OneVerifies k r originals recovery verified
    × (answer ≡ result_map_both (λ u. u) (placed_refusal (shards_in originals ++ shards_in recovery)) verified)

-- the result of reconstructing over arrays, and the bytes of the rooms: those of `reconstruct_into` for these shards.
-- The fault of a shard or a room of another size says its place
abbrev pub ReconstructsArrays : ℕ → ℕ → Items → Items → List ShardIndex → List (List ℕ) → List (List ℕ)
    → Result (Unit {0}) Fault → Type 0
ReconstructsArrays k r originals recovery wanted old new answer =
    (made : Result (Unit {0}) ReconstructError) × ReconstructsInto k r originals recovery wanted old new made
    × (answer ≡ result_map_both (λ u. u) (placed_reconstruct (shards_in originals ++ shards_in recovery) old) made)

-- the result of updating recovery shards in arrays, and the bytes of the rooms: those of `update_into`. If the new
-- original has another size, the place of the fault is 1. The fault of a room of another size says its place
abbrev pub UpdatesArrays : ℕ → ℕ → ℕ → Shard → Shard → List (List ℕ) → List (List ℕ) → Result (Unit {0}) Fault → Type 0
UpdatesArrays k r index before after old new answer =
    (updated : Result (Unit {0}) RoomError) × UpdatesInto k r index before after old new updated
    × (answer ≡ result_map_both (λ u. u) (placed (before ∷ after ∷ []) old) updated)
