use Rattle.std.proofs.Common.{◌≡◌, ℕ, ◌-◌, ◌≤◌, min}
use Rattle.rs_field.specs.code.Decoder.{DecoderState}
use Rattle.reed_solomon_simd.proofs.StripLoops.{IsCut}
use Rattle.reed_solomon_simd.proofs.RebuiltStrips.{IsRebuiltBelow}
use Rattle.reed_solomon_simd.proofs.strips.make_strips.Given as goal

-- All bytes before `start` are made. A chunk begins at `start`, or the shards end there. The next strip can be made.
abbrev pub invariant-loop-start : goal.invariant-loop-start
invariant-loop-start g l =
    record {
      received : g.S.Pieces.received l.store ≡ g.S.Pieces.received l.initial.store;
      wanted : (s : DecoderState) → g.W.Way.wanted l.way s ≡ g.W.Way.wanted l.initial.way s;
      cut : IsCut l.start l.shard_bytes;
      ready : (n : ℕ) × (min l.width (l.shard_bytes - l.start) ≤ n)
          × g.W.Way.ready l.way (g.S.Pieces.received l.initial.store) n;
      done : IsRebuiltBelow (g.S.Pieces.received l.initial.store)
          (g.W.Way.wanted l.initial.way (g.S.Pieces.received l.initial.store)) g.S.Rooms.grows l.start
          (g.S.Rooms.held l.store);
      places : g.S.Rooms.places l.store ≡ g.S.Rooms.places l.initial.store;
      loan : g.S.Rooms.loan l.store ≡ g.S.Rooms.loan l.initial.store;
    }

abbrev pub decreases-loop-start : goal.decreases-loop-start
decreases-loop-start g l = l.shard_bytes - l.start
