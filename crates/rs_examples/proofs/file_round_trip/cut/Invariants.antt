use Rattle.std.proofs.Common.{◌≡◌, ◌-◌, ◌++◌, map}
use Rattle.rs_volumes.specs.Laid.{cut_blocks}
use Rattle.rs_examples.proofs.file_round_trip.cut.Given as goal

abbrev pub invariant-loop : goal.invariant-loop
invariant-loop l =
    cut_blocks l.size l.count l.row
    ≡ map (λ block. block.items) l.blocks.items ++ cut_blocks l.size (l.count - l.counter) l.rest
