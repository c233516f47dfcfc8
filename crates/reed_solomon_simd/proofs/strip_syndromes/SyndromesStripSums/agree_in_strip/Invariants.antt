use Rattle.std.proofs.Common.{◌≡◌, ℕ, ◌<◌, length}
use Rattle.rs_field.specs.code.PieceStates.{state_of_pieces}
use Rattle.rs_rate.specs.objects.StripView.{coded_shards}
use Rattle.reed_solomon_simd.specs.Syndromes.{AgreesAt}
use Rattle.reed_solomon_simd.proofs.strip_syndromes.SyndromesStripSums.agree_in_strip.Given as goal

-- The syndromes below the index are the sums of those of the base, if they are not in it.
abbrev pub invariant-loop-index : goal.invariant-loop-index
invariant-loop-index g l = record {
  room : length l.x ≡ length l.initial.x;
  agree : (i : ℕ) → i < l.index
      → AgreesAt (state_of_pieces l.start l.end (g.P.Pieces.received l.received)) l.self.base
      (coded_shards l.self.encoder) i;
}
