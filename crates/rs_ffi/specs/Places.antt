-- The places that faults name.
use Rattle.std.specs.Prelude.{ℕ, ◌+◌, ◌==◌, List, [], ◌∷◌, length, if◌then◌else◌}
use Rattle.rs_field.specs.declared.code.error.Error.{Error}
use Rattle.rs_field.specs.declared.code.error.Error.TheVariants.{DifferentShardSize}
use Rattle.rs_field.specs.code.Column.{Shard}
use Rattle.reed_solomon_simd.specs.declared.room_error.RoomError.{RoomError}
use Rattle.reed_solomon_simd.specs.declared.room_error.RoomError.TheVariants.{Refused as refused}
use Rattle.reed_solomon_simd.specs.declared.room_error.RoomError.TheVariants.{WrongLength as wrong_length}
use Rattle.reed_solomon_simd.specs.declared.room_error.RoomError.TheVariants.{WrongNumberOfRooms as wrong_number}
use Rattle.reed_solomon_simd.specs.declared.reconstruct_error.ReconstructError.{ReconstructError}
use Rattle.reed_solomon_simd.specs.declared.reconstruct_error.ReconstructError.TheVariants.{
  Refused as
      given_refused,
}
use Rattle.reed_solomon_simd.specs.declared.reconstruct_error.ReconstructError.TheVariants.{
  WantedIndexTooLarge as
      too_large,
}
use Rattle.reed_solomon_simd.specs.declared.reconstruct_error.ReconstructError.TheVariants.{
  WantedTwice as
      twice,
}
use Rattle.reed_solomon_simd.specs.declared.reconstruct_error.ReconstructError.TheVariants.{
  WantedReceived as
      received,
}
use Rattle.reed_solomon_simd.specs.declared.reconstruct_error.ReconstructError.TheVariants.{
  WrongNumberOfRooms as
      other_number,
}
use Rattle.reed_solomon_simd.specs.declared.reconstruct_error.ReconstructError.TheVariants.{
  WrongLength as
      other_length,
}
use Rattle.rs_ffi.specs.declared.fault.Fault.{Fault}
use Rattle.rs_ffi.specs.declared.fault.Fault.TheVariants.{Refused, WrongLength, WrongNumberOfRooms}
use Rattle.rs_ffi.specs.declared.fault.Fault.TheVariants.{WantedIndexTooLarge, WantedTwice, WantedReceived}
use Rattle.rs_ffi.specs.declared.fault.Fault.TheVariants.{DifferentShardSize as different_size}

-- the place of the first shard or room that does not have this size, counted from 0. If all have it, this is their
-- number
abbrev pub place_of_other : ℕ → List Shard → ℕ
place_of_other size [] = 0
place_of_other size (shard ∷ shards) = if length shard == size then place_of_other size shards + 1 else 0

-- the fault of an error of the library about these shards. It says the place of the first shard of another size
abbrev pub placed_refusal : List Shard → Error → Fault
placed_refusal shards (DifferentShardSize size got) = different_size size got (place_of_other size shards)
placed_refusal shards error = Refused error

-- the fault of an error of a call over arrays. It says the place of the first shard, or of the first room, of another
-- size
abbrev pub placed : List Shard → List (List ℕ) → RoomError → Fault
placed shards rooms (refused error) = placed_refusal shards error
placed shards rooms (wrong_number wanted got) = WrongNumberOfRooms wanted got
placed shards rooms (wrong_length wanted got) = WrongLength wanted got (place_of_other wanted rooms)

-- the fault of an error of a call that reconstructs wanted shards. It says the place of the first shard, or of the
-- first room, of another size
abbrev pub placed_reconstruct : List Shard → List (List ℕ) → ReconstructError → Fault
placed_reconstruct shards rooms (given_refused error) = placed_refusal shards error
placed_reconstruct shards rooms (too_large wanted count) = WantedIndexTooLarge wanted count
placed_reconstruct shards rooms (twice wanted) = WantedTwice wanted
placed_reconstruct shards rooms (received wanted) = WantedReceived wanted
placed_reconstruct shards rooms (other_number wanted got) = WrongNumberOfRooms wanted got
placed_reconstruct shards rooms (other_length wanted got) = WrongLength wanted got (place_of_other wanted rooms)
