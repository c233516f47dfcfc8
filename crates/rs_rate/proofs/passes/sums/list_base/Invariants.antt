use Rattle.std.proofs.Common.{◌≤◌, length, take}
use Rattle.rs_rate.specs.passes.Sums.{ListsMarked}
use Rattle.rs_rate.proofs.passes.sums.list_base.Given as goal

-- The given rows before `row` are listed.
abbrev pub invariant-loop-row : goal.invariant-loop-row
invariant-loop-row l = record {
  few : l.count ≤ length l.rows;
  listed : ListsMarked l.given l.row (take l.count l.rows);
}
