-- The text of each fault.
use Rattle.std.specs.Prelude.{ℕ, List, ◌++◌, codes}
use Rattle.std.specs.Fmt.{decimal}
use Rattle.rs_field.specs.code.Texts.{text_of as refusal_text}
use Rattle.rs_field.specs.declared.code.error.Error.TheVariants.{DifferentShardSize}
use Rattle.reed_solomon_simd.specs.declared.reconstruct_error.ReconstructError.TheVariants.{WantedTwice as twice}
use Rattle.reed_solomon_simd.specs.declared.reconstruct_error.ReconstructError.TheVariants.{WantedReceived as received}
use Rattle.reed_solomon_simd.specs.declared.reconstruct_error.ReconstructError.TheVariants.{
  WantedIndexTooLarge as
      too_large,
}
use Rattle.reed_solomon_simd.specs.ReconstructTexts.{text_of_reconstruct_error}
use Rattle.rs_ffi.specs.declared.fault.Fault.{Fault}
use Rattle.rs_ffi.specs.declared.fault.Fault.TheVariants.{Refused, WrongLength, WrongNumberOfRooms, TablesNotMade}
use Rattle.rs_ffi.specs.declared.fault.Fault.TheVariants.{WantedIndexTooLarge, WantedTwice, WantedReceived}
use Rattle.rs_ffi.specs.declared.fault.Fault.TheVariants.{DifferentShardSize as different_size}

-- the text of a fault. It does not say the place of a shard, a buffer or a room
abbrev pub text_of : Fault → List ℕ
text_of (Refused error) = refusal_text error
text_of (different_size shard_bytes got place) = refusal_text (DifferentShardSize shard_bytes got)
text_of (WrongLength wanted got place) =
    codes "wrong length: expected " ++ decimal wanted ++ codes " bytes, got " ++ decimal got ++ codes " bytes"
text_of (WrongNumberOfRooms wanted got) =
    codes "wrong number of rooms: expected " ++ decimal wanted ++ codes ", got " ++ decimal got
text_of TablesNotMade = codes "tables not made: rs_tables_make has not filled them"
text_of (WantedIndexTooLarge wanted count) = text_of_reconstruct_error (too_large wanted count)
text_of (WantedTwice wanted) = text_of_reconstruct_error (twice wanted)
text_of (WantedReceived wanted) = text_of_reconstruct_error (received wanted)
