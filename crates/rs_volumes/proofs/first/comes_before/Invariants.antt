use Rattle.std.proofs.Common.{◌≡◌, drop}
use Rattle.rs_volumes.specs.First.{comes_before}
use Rattle.rs_volumes.proofs.first.comes_before.Given as goal

abbrev pub invariant-loop-index : goal.invariant-loop-index
invariant-loop-index l = comes_before l.one l.other ≡ comes_before (drop l.index l.one) (drop l.index l.other)
