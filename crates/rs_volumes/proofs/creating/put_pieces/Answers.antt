use Rattle.std.proofs.Common.{rules}
use Rattle.rs_volumes.proofs.Coded.{piece_at}
use Rattle.rs_volumes.proofs.creating.put_pieces.Goals as goal

pub loop-number-preserved : goal.loop-number-preserved
loop-number-preserved g c = search (rules, piece_at)
