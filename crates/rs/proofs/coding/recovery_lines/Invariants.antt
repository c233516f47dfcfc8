use Rattle.std.proofs.Common.{◌≡◌, map, take}
use Rattle.rs.specs.Printed.{lines_of, concatenation}
use Rattle.rs.proofs.coding.recovery_lines.Given as goal

abbrev pub invariant-loop-shard : goal.invariant-loop-shard
invariant-loop-shard l =
    concatenation l.texts ≡ lines_of (map (λ v. v.items) (take l.shard-index l.shard-items))
