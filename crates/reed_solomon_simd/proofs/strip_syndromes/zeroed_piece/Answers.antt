use Rattle.std.proofs.Common.{◌-◌, Bor, ap, ◌∙◌}
use Rattle.rs_field.specs.code.Column.{Shard}
use Rattle.rs_field.specs.code.PieceStates.{state_of_pieces}
use Rattle.reed_solomon_simd.proofs.SyndromeRounds.{piece-or-zeros}
use Rattle.reed_solomon_simd.proofs.strip_syndromes.zeroed_piece.Goals as goal

pub returns : goal.returns
returns g c =
    ap (λ (piece : Bor Shard). piece.now) c.unwrap_or.ensures
    ∙ piece-or-zeros c.piece-piece.result c.args.zeros
    ((state_of_pieces c.args.start c.args.end (g.P.Pieces.received c.args.received.now)).originals c.args.index)
    (c.args.end - c.args.start) c.piece-piece.ensures c.requires.blank
