-- The text of each error of a call that writes into memory of the caller.
use Rattle.std.specs.Prelude.{ℕ, List, ◌++◌, codes}
use Rattle.std.specs.Fmt.{decimal}
use Rattle.rs_field.specs.code.Texts.{text_of}
use Rattle.reed_solomon_simd.specs.declared.room_error.RoomError.{RoomError}
use Rattle.reed_solomon_simd.specs.declared.room_error.RoomError.TheVariants.{Refused, WrongLength, WrongNumberOfRooms}

-- the text of an error, with its numbers in decimal digits
abbrev pub text_of_room_error : RoomError → List ℕ
text_of_room_error (Refused error) = text_of error
text_of_room_error (WrongNumberOfRooms wanted got) =
    codes "wrong number of rooms: expected " ++ decimal wanted ++ codes ", got " ++ decimal got
text_of_room_error (WrongLength wanted got) =
    codes "wrong length: expected " ++ decimal wanted ++ codes " bytes, got " ++ decimal got ++ codes " bytes"
