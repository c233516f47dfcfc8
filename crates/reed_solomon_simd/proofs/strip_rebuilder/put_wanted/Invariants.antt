use Rattle.std.proofs.Common.{◌≡◌, ℕ, ◌-◌, ◌<◌, ◌≤◌, List, [], ◌++◌, length, take, drop, get_or, map, Some, All}
use Rattle.rs_field.specs.code.Column.{Shard}
use Rattle.rs_rate.specs.objects.ResultView.{restored_originals}
use Rattle.reed_solomon_simd.specs.Rounds.{lent_by}
use Rattle.reed_solomon_simd.specs.Reconstructed.{lent_at}
use Rattle.reed_solomon_simd.proofs.strip_rebuilder.put_wanted.Given as goal

-- The rooms below the index hold their pieces, and the others hold what they held before the loop.
abbrev pub invariant-loop-room : goal.invariant-loop-room
invariant-loop-room g l =
    record {
      made : List Shard;
      listed : map (lent_at (restored_originals l.restored) (lent_by l.encoder)) l.wanted
          ≡ map (λ piece. Some piece) made;
      sized : All (λ piece. length piece ≡ l.end - l.start) made;
      number : length (g.R.Rooms.held l.rooms) ≡ length (g.R.Rooms.held l.initial.rooms);
      put : (i : ℕ) → i < l.room → get_or (g.R.Rooms.held l.rooms) i []
          ≡ take l.start (get_or (g.R.Rooms.held l.initial.rooms) i [])
          ++ (get_or made i [] ++ drop l.end (get_or (g.R.Rooms.held l.initial.rooms) i []));
      others : (i : ℕ) → l.room ≤ i
          → get_or (g.R.Rooms.held l.rooms) i [] ≡ get_or (g.R.Rooms.held l.initial.rooms) i [];
      places : g.R.Rooms.places l.rooms ≡ g.R.Rooms.places l.initial.rooms;
      loan : g.R.Rooms.loan l.rooms ≡ g.R.Rooms.loan l.initial.rooms;
    }
