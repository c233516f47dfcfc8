use Rattle.std.proofs.Common.{◌≡◌}
use Rattle.rs_field.specs.code.PieceStates.{state_of_pieces}
use Rattle.rs_rate.specs.objects.StripView.{code_of, coded_shards}
use Rattle.reed_solomon_simd.proofs.SyndromeRounds.{AddedBelow}
use Rattle.reed_solomon_simd.proofs.strip_syndromes.add_received.Given as goal

-- The shards below the index are syndromes, and the others are as they were before the loop.
abbrev pub invariant-loop-index : goal.invariant-loop-index
invariant-loop-index g l =
    record {
      code : code_of l.encoder ≡ code_of l.initial.encoder;
      reads : l.encoder.reads ≡ l.initial.encoder.reads;
      added : AddedBelow l.index (state_of_pieces l.start l.end (g.P.Pieces.received l.received)).recovery
          (coded_shards l.initial.encoder) (coded_shards l.encoder);
    }
