use Rattle.std.proofs.Common.{◌≡◌, ℕ, ◌<◌, ◌≤◌, [], ◌++◌, length, map, take, drop, get_or}
use Rattle.reed_solomon_simd.proofs.restoring.put_all.Given as goal

-- The rooms below the index hold their vectors, and the others hold what they held before the loop.
abbrev pub invariant-loop-index : goal.invariant-loop-index
invariant-loop-index g l =
    record {
      number : length (g.R.Rooms.held l.rooms) ≡ length (g.R.Rooms.held l.initial.rooms);
      put : (i : ℕ) → i < l.index → get_or (g.R.Rooms.held l.rooms) i []
          ≡ take 0 (get_or (g.R.Rooms.held l.initial.rooms) i [])
          ++ (get_or (map (λ v. v.items) l.vectors) i []
          ++ drop l.shard_bytes (get_or (g.R.Rooms.held l.initial.rooms) i []));
      others : (i : ℕ) → l.index ≤ i
          → get_or (g.R.Rooms.held l.rooms) i [] ≡ get_or (g.R.Rooms.held l.initial.rooms) i [];
      places : g.R.Rooms.places l.rooms ≡ g.R.Rooms.places l.initial.rooms;
      loan : g.R.Rooms.loan l.rooms ≡ g.R.Rooms.loan l.initial.rooms;
    }
