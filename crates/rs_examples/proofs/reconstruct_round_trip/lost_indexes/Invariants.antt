use Rattle.rs_examples.specs.Losing.{ListsLost}
use Rattle.rs_examples.proofs.reconstruct_round_trip.lost_indexes.Given as goal

-- The list has the lost indexes below the current one.
abbrev pub invariant-loop-index : goal.invariant-loop-index
invariant-loop-index l = ListsLost l.index-counter l.lost l.indexes.items
