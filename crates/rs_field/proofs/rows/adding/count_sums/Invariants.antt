use Rattle.std.proofs.Common.{◌+◌, ◌*◌}
use Rattle.rs_field.specs.rows.AddedRows.{clear_steps}
use Rattle.rs_field.specs.words.StepBounds.{CountsUpTo}
use Rattle.rs_field.proofs.rows.adding.count_sums.Given as goal

abbrev pub invariant-loop-sum : goal.invariant-loop-sum
invariant-loop-sum l = CountsUpTo (l._sum * (clear_steps l.fn.writing + 3 * l.fn.count)) 0 0 l.initial.steps l.steps
