use Rattle.std.proofs.Common.{All, ◌+◌, take}
use Rattle.rs_volumes.specs.Found.{IsFound}
use Rattle.rs_volumes.proofs.restoring.first_lost.Given as goal

abbrev pub invariant-loop-number : goal.invariant-loop-number
invariant-loop-number g l = All (λ n. IsFound l.found.places.items (l.first + n)) (take l.number-index l.numbers)
