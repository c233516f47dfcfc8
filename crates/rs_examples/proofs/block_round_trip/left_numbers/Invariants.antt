use Rattle.rs_examples.specs.Blocks.{ListsLeft}
use Rattle.rs_examples.proofs.block_round_trip.left_numbers.Given as goal

abbrev pub invariant-loop-number : goal.invariant-loop-number
invariant-loop-number l = ListsLeft l.first l.number l.lost l.numbers.items
