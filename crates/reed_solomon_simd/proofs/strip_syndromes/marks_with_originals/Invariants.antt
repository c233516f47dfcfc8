use Rattle.std.proofs.Common.{◌≡◌, ◌≤◌, vec_len}
use Rattle.rs_field.specs.code.Frame.{row_count}
use Rattle.reed_solomon_simd.proofs.SyndromeMarks.{OwnBelow}
use Rattle.reed_solomon_simd.proofs.strip_syndromes.marks_with_originals.Given as goal

-- The rows of the originals below the index are marked exactly if these were received, and the others as in `marks`.
abbrev pub invariant-loop-index : goal.invariant-loop-index
invariant-loop-index g l =
    record {
      count : vec_len l.all ≡ row_count l.counts.frame;
      most : l.index ≤ l.counts.original_count;
      added : OwnBelow l.index l.counts.frame (g.P.Pieces.received l.received).originals l.marks l.all.items;
    }
