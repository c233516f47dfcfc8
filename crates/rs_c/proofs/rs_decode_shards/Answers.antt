use Rattle.rs_c.proofs.rs_decode_shards.Goals.{in-Some, in-None}
use Rattle.rs_c.proofs.rs_decode_shards.Goals as goal

pub returns-clause-answer : goal.returns-clause-answer
returns-clause-answer c stamped = elim c.match-engine_over.branch [
  | in-Some w ↦
      let does = w.decode_arrays-answer.ensures in (
        c.match-engine_over.answer,
        c.of.ensures,
        rw (w.answer-is, w.restored-is) does.answer,
        rw w.answer-is does.memory,
      )
  | in-None w ↦ absurd (w.in-None.ensures stamped)
]
