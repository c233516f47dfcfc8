use Rattle.std.proofs.Common.{◌≡◌, ℕ, ◌<◌, [], length, get_or}
use Rattle.reed_solomon_simd.specs.Rooms.{bytes_in}
use Rattle.reed_solomon_simd.proofs.rooms.check_rooms.Given as goal

-- Each room below the index has the shard size.
abbrev pub invariant-loop-index : goal.invariant-loop-index
invariant-loop-index l = (i : ℕ) → i < l.index → length (get_or (bytes_in l.rooms) i []) ≡ l.shard_bytes
