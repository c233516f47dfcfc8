use Rattle.std.proofs.Common.{◌≡◌, length}
use Rattle.reed_solomon_simd.specs.StripSums.{sum_at}
use Rattle.reed_solomon_simd.specs.StripSums.{ArePutFrom}
use Rattle.reed_solomon_simd.proofs.strip_sums.put_group.Given as goal

-- The pieces before this one are in their rooms.
abbrev pub invariant-loop-index : goal.invariant-loop-index
invariant-loop-index g l = record {
  number : length (g.S.Rooms.held l.store) ≡ length (g.S.Rooms.held l.initial.store);
  put : ArePutFrom l.fn.indexes.start l.index l.fn.start l.fn.piece_len (λ d. sum_at l.fn.x l.fn.piece_len d)
      (g.S.Rooms.held l.initial.store) (g.S.Rooms.held l.store);
  places : g.S.Rooms.places l.store ≡ g.S.Rooms.places l.initial.store;
  loan : g.S.Rooms.loan l.store ≡ g.S.Rooms.loan l.initial.store;
}
