use Rattle.rs_c.proofs.rs_verify.Goals.{in-Some, in-None}
use Rattle.rs_c.proofs.rs_verify.Goals as goal

pub returns-clause-answer : goal.returns-clause-answer
returns-clause-answer c stamped = elim c.match-engine_over.branch [
  | in-Some w ↦
      (c.match-engine_over.answer, c.of.ensures, rw w.answer-is w.verify_arrays-answer.ensures)
  | in-None w ↦ absurd (w.in-None.ensures stamped)
]
