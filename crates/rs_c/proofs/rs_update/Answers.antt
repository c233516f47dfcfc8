use Rattle.rs_c.proofs.rs_update.Goals.{in-Some, in-None}
use Rattle.rs_c.proofs.rs_update.Goals as goal

pub returns-clause-answer : goal.returns-clause-answer
returns-clause-answer c stamped = elim c.match-engine_over.branch [
  | in-Some w ↦
      (c.match-engine_over.answer, c.of.ensures, rw (w.answer-is, w.recovery-is) w.update_arrays-answer.ensures.answer)
  | in-None w ↦ absurd (w.in-None.ensures stamped)
]
