-- Memory that one object passes to the next.
use Rattle.std.specs.Prelude.{ℕ, Option, Some, None}
use Rattle.std.specs.declared.vec.Vec.{Vec}
use Rattle.std.specs.Vec.{vec_capacity}

-- the number of items for which a vector has room, or 0 if there is no vector
abbrev pub room_of : {X Z : Type 0} → Option (Vec X Z) → ℕ
room_of None = 0
room_of (Some v) = vec_capacity v
