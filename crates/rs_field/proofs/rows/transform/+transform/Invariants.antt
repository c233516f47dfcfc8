use Rattle.std.proofs.Common.{◌+◌, ◌*◌}
use Rattle.rs_field.specs.words.StepBounds.{CountsUpTo, transform_steps}
use Rattle.rs_field.specs.rows.MarkedRows.{is_used}
use Rattle.rs_field.proofs.rows_lemmas.PartLoops.{PartsDone}
use Rattle.rs_field.proofs.rows.transform.+transform.Given as goal

abbrev pub decreases-transform : goal.decreases-transform
decreases-transform g l = 3 * l.block.size + 2

abbrev pub decreases-transform_many : goal.decreases-transform_many
decreases-transform_many g l = 3 * l.block.size + 1

abbrev pub decreases-transform_parts : goal.decreases-transform_parts
decreases-transform_parts g l = 3 * l.block.size

abbrev pub invariant-transform_parts-loop-j : goal.invariant-transform_parts-loop-j
invariant-transform_parts-loop-j g l = record {
  done : PartsDone l.direction (is_used l.used) l.block l.part l.j l.fn.data l.data;
  counts : CountsUpTo (l.j * transform_steps l.part) 0 0 l.fn.steps l.steps;
}
