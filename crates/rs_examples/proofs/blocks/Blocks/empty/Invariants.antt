use Rattle.std.proofs.Common.{◌≡◌, [], map}
use Rattle.std.specs.Prelude.{replicate}
use Rattle.rs_examples.proofs.blocks.Blocks.empty.Given as goal

abbrev pub invariant-loop : goal.invariant-loop
invariant-loop l = map (λ block. block.items) l.blocks.items ≡ replicate l.counter []
