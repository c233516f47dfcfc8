use Rattle.std.proofs.Common.{◌≡◌, ◌++◌, map}
use Rattle.rs.specs.Printed.{indexed_lines_of, concatenation}
use Rattle.rs.proofs.coding.indexed_lines.Given as goal

abbrev pub invariant-loop-index : goal.invariant-loop-index
invariant-loop-index l =
    concatenation l.texts ++ indexed_lines_of (map (λ e. (e.0, e.1.items)) l.index-iterator)
    ≡ indexed_lines_of (map (λ e. (e.0, e.1.items)) l.shards.entries)
