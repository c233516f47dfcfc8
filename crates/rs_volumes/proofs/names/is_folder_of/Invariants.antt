use Rattle.std.proofs.Common.{◌≡◌, drop}
use Rattle.rs_volumes.specs.Names.{is_folder_of}
use Rattle.rs_volumes.proofs.names.is_folder_of.Given as goal

abbrev pub invariant-loop-index : goal.invariant-loop-index
invariant-loop-index l = is_folder_of l.one l.other ≡ is_folder_of (drop l.index l.one) (drop l.index l.other)
