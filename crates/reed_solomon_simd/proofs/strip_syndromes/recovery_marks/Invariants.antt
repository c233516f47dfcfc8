use Rattle.std.proofs.Common.{◌≡◌, vec_len}
use Rattle.rs_field.specs.code.Frame.{row_count}
use Rattle.reed_solomon_simd.proofs.SyndromeMarks.{CodedBelow}
use Rattle.reed_solomon_simd.proofs.strip_syndromes.recovery_marks.Given as goal

-- The rows of the recovery shards below the index are marked exactly if these were received, and no other rows.
abbrev pub invariant-loop-index : goal.invariant-loop-index
invariant-loop-index g l =
    record {
      count : vec_len l.marks ≡ row_count l.counts.frame;
      marked : CodedBelow l.index l.counts.frame (g.P.Pieces.received l.received).recovery l.marks.items;
    }
