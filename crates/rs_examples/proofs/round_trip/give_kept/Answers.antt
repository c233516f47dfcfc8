use Rattle.std.proofs.Common.{rules}
use Rattle.rs_examples.proofs.InTurn.{shards_from-next}
use Rattle.rs_examples.proofs.round_trip.give_kept.Goals as goal

pub loop-index-preserved-then-contains : goal.loop-index-preserved-then-contains
loop-index-preserved-then-contains c = search (rules, shards_from-next)

pub loop-index-preserved : goal.loop-index-preserved
loop-index-preserved c = search (rules, shards_from-next)
