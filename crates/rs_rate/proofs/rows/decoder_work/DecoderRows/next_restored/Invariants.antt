use Rattle.std.proofs.Common.{◌≡◌}
use Rattle.rs_rate.specs.rows.DecoderView.{restored_from}
use Rattle.rs_rate.proofs.rows.decoder_work.DecoderRows.next_restored.Given as goal

-- No restored original was skipped.
abbrev pub invariant-loop-index : goal.invariant-loop-index
invariant-loop-index l = restored_from l.self l.from ≡ restored_from l.self l.index
