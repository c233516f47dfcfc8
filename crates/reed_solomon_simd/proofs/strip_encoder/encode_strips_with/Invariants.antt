use Rattle.std.proofs.Common.{◌≡◌, ℕ, ◌-◌, ◌≤◌, length, min}
use Rattle.rs_field.specs.code.Counts.{default_rate}
use Rattle.rs_field.specs.code.OneCall.{default_of}
use Rattle.rs_field.proofs.code_lemmas.Pieces.{IsDone}
use Rattle.rs_rate.specs.objects.StripView.{code_of}
use Rattle.reed_solomon_simd.proofs.StripLoops.{IsCut}
use Rattle.reed_solomon_simd.proofs.strip_encoder.encode_strips_with.Given as goal

-- All bytes before `start` are coded. A chunk begins at `start`, or the shards end there. The encoder has room for the
-- next strip.
abbrev pub invariant-loop-start : goal.invariant-loop-start
invariant-loop-start g l =
    record {
      cut : IsCut l.start l.shard_bytes;
      code : (n : ℕ) × (min l.width (l.shard_bytes - l.start) ≤ n)
          × (code_of l.encoder
          ≡ default_of (length (g.O.Originals.shards l.originals)) (length (g.R.Rooms.held l.initial.rooms)) n);
      reads : l.encoder.reads ≡ l.initial.encoder.reads;
      done : IsDone (length (g.O.Originals.shards l.originals)) (length (g.R.Rooms.held l.initial.rooms)) l.shard_bytes
          l.start g.R.Rooms.grows default_rate (g.O.Originals.shards l.originals) (g.R.Rooms.held l.rooms);
      places : g.R.Rooms.places l.rooms ≡ g.R.Rooms.places l.initial.rooms;
      loan : g.R.Rooms.loan l.rooms ≡ g.R.Rooms.loan l.initial.rooms;
    }

abbrev pub decreases-loop-start : goal.decreases-loop-start
decreases-loop-start g l = l.shard_bytes - l.start
