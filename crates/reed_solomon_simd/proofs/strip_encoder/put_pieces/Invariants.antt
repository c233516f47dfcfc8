use Rattle.std.proofs.Common.{◌≡◌, ℕ, ◌<◌, ◌≤◌, [], ◌++◌, length, take, drop, get_or}
use Rattle.rs_rate.specs.objects.StripView.{coded_shards}
use Rattle.reed_solomon_simd.proofs.strip_encoder.put_pieces.Given as goal

-- The rooms below the index hold their pieces, and the others hold what they held before the loop.
abbrev pub invariant-loop-index : goal.invariant-loop-index
invariant-loop-index g l =
    record {
      number : length (g.R.Rooms.held l.rooms) ≡ length (g.R.Rooms.held l.initial.rooms);
      put : (i : ℕ) → i < l.index → get_or (g.R.Rooms.held l.rooms) i []
          ≡ take l.start (get_or (g.R.Rooms.held l.initial.rooms) i [])
          ++ (get_or (coded_shards l.encoder) i [] ++ drop l.end (get_or (g.R.Rooms.held l.initial.rooms) i []));
      others : (i : ℕ) → l.index ≤ i
          → get_or (g.R.Rooms.held l.rooms) i [] ≡ get_or (g.R.Rooms.held l.initial.rooms) i [];
      places : g.R.Rooms.places l.rooms ≡ g.R.Rooms.places l.initial.rooms;
      loan : g.R.Rooms.loan l.rooms ≡ g.R.Rooms.loan l.initial.rooms;
    }
