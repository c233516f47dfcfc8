use Rattle.reed_solomon_simd.specs.Reconstructed.{NamesMissing}
use Rattle.reed_solomon_simd.proofs.strip_summer.missing_originals.Given as goal

-- The list has the names of the missing originals below the index.
abbrev pub invariant-loop-index : goal.invariant-loop-index
invariant-loop-index g l = NamesMissing l.index (g.P.Pieces.received l.received) l.missing.items
