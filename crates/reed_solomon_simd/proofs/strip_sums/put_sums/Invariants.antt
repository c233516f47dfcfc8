use Rattle.std.proofs.Common.{◌≡◌, ◌-◌, ◌≤◌, List, length}
use Rattle.rs_field.specs.code.Column.{Shard}
use Rattle.rs_field.specs.code.Decoder.{IsAgreeing}
use Rattle.rs_field.specs.code.PieceStates.{state_of_pieces}
use Rattle.reed_solomon_simd.specs.StripSums.{PutBelow}
use Rattle.reed_solomon_simd.proofs.RebuiltStrips.{named_shards}
use Rattle.reed_solomon_simd.proofs.strip_sums.put_sums.Given as goal

abbrev pub decreases-loop-at : goal.decreases-loop-at
decreases-loop-at g l = length l.wanted - l.at

-- The rooms before this group hold their pieces, and the others hold what they held before the loop.
abbrev pub invariant-loop-at : goal.invariant-loop-at
invariant-loop-at g l = record {
  inside : l.at ≤ length l.wanted;
  memory : length l.x ≡ length l.initial.x;
  received : g.S.Pieces.received l.store ≡ g.S.Pieces.received l.initial.store;
  number : length (g.S.Rooms.held l.store) ≡ length (g.S.Rooms.held l.initial.store);
  put : (message : List Shard)
      (agrees : IsAgreeing (state_of_pieces l.start l.end (g.S.Pieces.received l.initial.store)) message)
      → PutBelow l.start l.end (named_shards message agrees.coded.0 l.wanted)
      (g.S.Rooms.held l.initial.store) (g.S.Rooms.held l.store) l.at;
  places : g.S.Rooms.places l.store ≡ g.S.Rooms.places l.initial.store;
  loan : g.S.Rooms.loan l.store ≡ g.S.Rooms.loan l.initial.store;
}
