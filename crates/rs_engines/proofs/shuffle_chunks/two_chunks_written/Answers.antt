use Rattle.std.proofs.Common.{◌-◌, inl, inr, ap, arith}
use Rattle.rs_field.specs.rows.Written.{held}
use Rattle.std.proofs.lemmas.Bool.{cases_lt}
use Rattle.rs_engines.proofs.Kept.{added_after, added_before, two_kept_after}
use Rattle.rs_engines.proofs.shuffle_chunks.two_chunks_written.Goals as goal

pub returns-then-LANES-lt32 : goal.returns-then-LANES-lt32
returns-then-LANES-lt32 g c s h =
    let width = g.met.V.ByteVector.width in
    let butterfly = g.D.Butterflies.two (g.F.Factor.log c.args.factor) in
    elim (cases_lt s 16) [
      | inl low ↦
          let next = c.lanes_of_two_written-then-LANES-lt32.ensures in
          two_kept_after butterfly _ _ _ _ _ _ (added_after _ _ _ (next.kept_0 s h (inl low)))
          (added_after _ _ _ (next.kept_1 s h (inl low)))
          (c.lanes_of_two_written.ensures.written s s (omega arith) (omega arith))
      | inr high ↦
          let past = c.lanes_of_two_written.ensures in
          two_kept_after butterfly _ _ _ _ _ _
          (added_before _ _ _ (ap (held g.W.WriteWords.writing) (past.kept_0 s h (inr (omega arith)))))
          (added_before _ _ _ (ap (held g.W.WriteWords.writing) (past.kept_1 s h (inr (omega arith)))))
          (c.lanes_of_two_written-then-LANES-lt32.ensures.written (s - 16) s (omega arith) (omega arith))
    ]

pub returns-else-LANES-lt32 : goal.returns-else-LANES-lt32
returns-else-LANES-lt32 g c s h = let width = g.met.V.ByteVector.width in
    c.lanes_of_two_written.ensures.written s s (omega arith) (omega arith)
