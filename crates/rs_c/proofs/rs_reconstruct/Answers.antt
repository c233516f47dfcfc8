use Rattle.rs_c.proofs.rs_reconstruct.Goals.{in-Some, in-None}
use Rattle.rs_c.proofs.rs_reconstruct.Goals as goal

pub returns-clause-answer : goal.returns-clause-answer
returns-clause-answer c stamped = elim c.match-engine_over.branch [
  | in-Some w ↦ (
    c.match-engine_over.answer,
    c.of.ensures,
    rw (w.answer-is, w.rooms-is) w.reconstruct_arrays-answer.ensures.answer,
  )
  | in-None w ↦ absurd (w.in-None.ensures stamped)
]
