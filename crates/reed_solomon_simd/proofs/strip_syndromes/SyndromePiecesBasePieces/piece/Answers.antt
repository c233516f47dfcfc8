use Rattle.std.proofs.Common.{◌-◌, length, ap, ◌∙◌}
use Rattle.rs_field.specs.code.Column.{Shard}
use Rattle.reed_solomon_simd.proofs.SyndromeRounds.{lent-length}
use Rattle.reed_solomon_simd.proofs.strip_syndromes.SyndromePiecesBasePieces.piece.Goals as goal

pub returns-clause-length : goal.returns-clause-length
returns-clause-length c =
    ap (λ (shard : Shard). length shard) c.syndrome_at.ensures
    ∙ lent-length c.args.self.now.encoder.now (c.args.row - c.args.self.now.recovery_from) c.requires.1
