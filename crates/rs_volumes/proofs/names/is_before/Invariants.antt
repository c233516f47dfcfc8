use Rattle.std.proofs.Common.{◌≡◌, drop}
use Rattle.rs_volumes.specs.Names.{is_before}
use Rattle.rs_volumes.proofs.names.is_before.Given as goal

abbrev pub invariant-loop-index : goal.invariant-loop-index
invariant-loop-index l = is_before l.one l.other ≡ is_before (drop l.index l.one) (drop l.index l.other)
