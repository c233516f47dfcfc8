use Rattle.std.proofs.Common.{rules}
use Rattle.rs_examples.proofs.InTurn.{shards_from-next}
use Rattle.rs_examples.proofs.round_trip.give_all.Goals as goal

pub loop-original-preserved : goal.loop-original-preserved
loop-original-preserved c = search (rules, shards_from-next)
