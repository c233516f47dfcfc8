use Rattle.std.proofs.Common.{◌≡◌, ℕ, ◌<◌, Some}
use Rattle.rs_field.specs.code.Column.{Shard, shard_at}
use Rattle.rs_field.specs.code.PieceStates.{pieces_of}
use Rattle.rs_rate.specs.objects.StripView.{coded_shards}
use Rattle.reed_solomon_simd.proofs.strip_comparer.are_encoded.Given as goal

-- The pieces with the indexes below the index are the encoded ones.
abbrev pub invariant-loop-index : goal.invariant-loop-index
invariant-loop-index g l =
    (i : ℕ) (piece : Shard) → i < l.index
    → pieces_of l.start l.end (g.P.Pieces.received l.received).recovery i ≡ Some piece
    → shard_at (coded_shards l.encoder) i ≡ piece
