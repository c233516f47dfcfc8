use Rattle.std.proofs.Common.{◌≡◌, ◌≤◌, [], drop}
use Rattle.std.specs.List.{between}
use Rattle.rs_volumes.specs.Names.{has_parts}
use Rattle.rs_volumes.proofs.names.has_parts.Given as goal

abbrev pub invariant-loop-end : goal.invariant-loop-end
invariant-loop-end l =
    record {
      order : l.start ≤ l.end;
      same : has_parts [] l.name ≡ has_parts (between l.start l.end l.name) (drop l.end l.name);
    }
