use Rattle.std.proofs.Common.{◌≡◌, ℕ, ◌<◌, length}
use Rattle.rs_field.specs.code.PieceStates.{state_of_pieces}
use Rattle.reed_solomon_simd.specs.Base.{AgreesInRow}
use Rattle.reed_solomon_simd.proofs.strip_summer.SumsStripSums.agree_in_strip.Given as goal

abbrev pub invariant-loop-row : goal.invariant-loop-row
invariant-loop-row g l = record {
  room : length l.x ≡ length l.initial.x;
  agree : (x : ℕ) → x < l.row
      → AgreesInRow l.self.base.marks.now (state_of_pieces l.start l.end (g.P.Pieces.received l.received)) x;
}
