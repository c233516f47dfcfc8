use Rattle.std.proofs.Common.{◌≡◌, ℕ, ◌<◌, All}
use Rattle.rs_field.specs.code.Column.{shard_at}
use Rattle.reed_solomon_simd.specs.Rooms.{bytes_in}
use Rattle.reed_solomon_simd.proofs.rooms.rooms_are_bytes.Given as goal

abbrev pub invariant-loop-i : goal.invariant-loop-i
invariant-loop-i l = record {
  same : l.rooms ≡ l.initial.rooms;
  bytes : (j : ℕ) → j < l.i → All (λ b. b < 256) (shard_at (bytes_in l.initial.rooms) j);
}
