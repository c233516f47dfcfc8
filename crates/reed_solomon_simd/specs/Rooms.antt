-- Rooms for shards that are written strip by strip.
use Rattle.std.specs.Prelude.{ℕ, ◌*◌, List, length, map, drop}
use Rattle.std.specs.Borrow.{Bor, MutBor}
use Rattle.rs_field.specs.code.Column.{Shard}

-- the shards to which the references of an array point
abbrev pub shards_of : List (Bor Shard) → List Shard
shards_of array = map (λ shard. shard.now) array

-- the bytes that rooms hold
abbrev pub bytes_in : List (MutBor (List ℕ)) → List (List ℕ)
bytes_in rooms = map (λ room. room.now) rooms

-- the memory to which an array of rooms points, and the loans of the rooms
abbrev pub loans_of : List (MutBor (List ℕ)) → List ((ℕ × ℕ) × ℕ)
loans_of rooms = map (λ room. (room.ref_ptr, room.ghost_name)) rooms

-- the length of each room, and its bytes after the first n chunks
abbrev pub rests : ℕ → List (MutBor (List ℕ)) → List (ℕ × Shard)
rests n rooms = map (λ room. (length room.now, drop (n * 64) room.now)) rooms

-- what a change of the first n chunks of rooms keeps: the array and its loan, n, the rooms and their loans, and the
-- rest of each room
abbrev pub Kept : Type 0
Kept = ((ℕ × ℕ) × ℕ × ℕ) × List ((ℕ × ℕ) × ℕ) × List (ℕ × Shard)

abbrev pub kept_of : ℕ → MutBor (List (MutBor (List ℕ))) → Kept
kept_of n rooms = ((rooms.ref_ptr, rooms.ghost_name, n), loans_of rooms.now, rests n rooms.now)
