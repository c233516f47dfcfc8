use Rattle.std.proofs.Common.{◌≡◌, ℕ, ◌<◌, ◌≤◌, [], ◌++◌, length, take, drop, get_or}
use Rattle.rs_field.specs.code.Given.{Lists}
use Rattle.rs_field.specs.code.OneCall.{Items}
use Rattle.rs_field.specs.code.PieceStates.{shards_listed}
use Rattle.rs_rate.specs.objects.ResultView.{restored_originals}
use Rattle.reed_solomon_simd.proofs.strip_decoder.put_pieces.Given as goal

-- The rooms below the index hold their pieces, the others hold what they held before the loop, and the iterator holds
-- the other pieces.
abbrev pub invariant-loop-piece : goal.invariant-loop-piece
invariant-loop-piece g l =
    record {
      items : Items;
      listed : Lists (restored_originals l.lent) items;
      left : drop l.room items ≡ l.piece-iterator;
      most : l.room ≤ length items;
      number : length (g.R.Rooms.held l.rooms) ≡ length (g.R.Rooms.held l.initial.rooms);
      put : (i : ℕ) → i < l.room → get_or (g.R.Rooms.held l.rooms) i []
          ≡ take l.start (get_or (g.R.Rooms.held l.initial.rooms) i [])
          ++ (get_or (shards_listed items) i [] ++ drop l.end (get_or (g.R.Rooms.held l.initial.rooms) i []));
      others : (i : ℕ) → l.room ≤ i
          → get_or (g.R.Rooms.held l.rooms) i [] ≡ get_or (g.R.Rooms.held l.initial.rooms) i [];
      places : g.R.Rooms.places l.rooms ≡ g.R.Rooms.places l.initial.rooms;
      loan : g.R.Rooms.loan l.rooms ≡ g.R.Rooms.loan l.initial.rooms;
    }
