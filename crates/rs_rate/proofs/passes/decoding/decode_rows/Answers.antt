use Rattle.std.proofs.Common.{◌≡◌, ◌+◌, ℕ, sym, ◌∙◌, subst, arith, inl, inr, true≢false, rules, List, length}
use Rattle.std.proofs.Math.Nat.{sub-zero}
use Rattle.std.proofs.lemmas.Bool.{cases_eq}
use Rattle.rs_field.specs.code.Frame.{original_row}
use Rattle.rs_rate.specs.values.Configured.{configuration_at}
use Rattle.rs_rate.specs.passes.Decoding.{RestoresShards}
use Rattle.rs_rate.proofs.passes_lemmas.SumLemmas.{written-back}
use Rattle.rs_rate.specs.rows.Marks.{given_marks, restored_marks, WantsMissing}
use Rattle.rs_rate.proofs.passes_lemmas.DecodedColumns.{FilledRows, DecodedRows}
use Rattle.rs_rate.proofs.passes_lemmas.DecodeAnswer.{AnswersOver, decode_answers, complete_answers, answer_by_check}
use Rattle.rs_rate.proofs.rows_lemmas.ResultLemmas.{length-restored}
use Rattle.rs_rate.proofs.rows_lemmas.StateLemmas.{valid-supported}
use Rattle.rs_rate.proofs.rows_lemmas.RowMaps.{hold_nothing, none-marked, none_told, nothing-given}
use Rattle.std.specs.Vec.{with_items}
use Rattle.rs_rate.specs.declared.rows.decoder_work.DecoderMemory.{DecoderMemory}
use Rattle.rs_rate.specs.declared.rows.marks.Marks.{Marks}
use Rattle.rs_rate.proofs.passes.decoding.decode_rows.Goals as goal
use Rattle.rs_rate.proofs.passes.decoding.decode_rows.Goals.{then-found, else-found}

-- The memory of a decoder whose chunks and entries were lent and written.
abbrev written : DecoderMemory → List (List ℕ) → Marks → List ℕ → DecoderMemory
written memory chunks marks entries = record {
  chunks = with_items memory.chunks chunks;
  marks = marks;
  entries = with_items memory.entries entries;
}

pub invariant_of-rows : goal.invariant_of-rows
invariant_of-rows g c = search (rules, hold_nothing, none-marked, none_told)

pub returns-clause-state : goal.returns-clause-state
returns-clause-state g c = search (rules, nothing-given, none-marked, none_told)

pub returns-clause-answer : goal.returns-clause-answer
returns-clause-answer g c = λ rate is.
    let old = c.args.rows.now in
    let own = old.configuration in
    let before = old.memory.chunks.items in
    let new = c.restore-found.new in
    let now = written old.memory new.chunks new.marks new.entries in
    let rows : FilledRows rate c.args.rows.now.configuration = record {
      supported = valid-supported (configuration_at rate own) is.valid;
      configured = old.configured;
      marks = given_marks old.memory.marks;
      chunks = before;
      originals = old.originals_given;
      recovery = old.recovery_given;
      given = old.given;
    } in
    let long : length c.args.rows.now.memory.chunks.items ≡ c.args.rows.now.memory.chunks.len = search rules in
    let many : length c.restore-found.new.chunks ≡ c.args.rows.now.memory.chunks.len = search rules in
    let same : now.chunks.items ≡ c.restore-found.new.chunks =
    written-back new.chunks old.memory.chunks.items old.memory.chunks.len many long in
    let tally = c.tally-tally.ensures in
    let count = rw tally.configuration at c.row_count.ensures in
    let missing : WantsMissing c.args.rows.now.configuration c.args.rows.now.memory.marks
    c.restore-found.new.marks = rw tally.configuration at c.restore-found.ensures.marks in
    let left : DecodedRows rows = record {
      marks = restored_marks c.restore-found.new.marks;
      chunks = now.chunks.items;
      missing = missing.missing;
    } in
    let over : AnswersOver rows left c.restore-found.result.agrees =
    elim (cases_eq (c.tally-tally.result.missing + c.tally-tally.result.surplus) 0) [
      | inl none ↦
          subst (AnswersOver rows left) (sym (c.restore-found.ensures.nothing (omega arith) (omega arith)))
          (complete_answers left
          (omega (arith, none, tally.missing), omega (arith, none, tally.missing, tally.surplus)))
      | inr some ↦
          let made = subst
          (λ l. RestoresShards own (given_marks old.memory.marks) c.tally-tally.result.surplus before l
          c.restore-found.result.agrees) (sym same)
          (rw (tally.configuration, c.as_mut_slice-chunks.ensures.value) at
          (c.restore-found.ensures.restored (omega arith))) in
          decode_answers is {left = left} {surplus = c.tally-tally.result.surplus} (record {
            counted = tally.surplus;
            restores = made;
            sized = λ i inside.
                rw (tally.configuration, c.as_slice.ensures.value) at (c.rows_are_bytes.ensures.in_order
                (original_row own.frame i) (omega (arith, inside, count, old.configured.own_rows)));
          })
    ] in
    answer_by_check rows left c.restore-found.result.agrees c.if-found.answer over
    (λ yes. elim c.if-found.branch [
      | then-found w ↦ (c.tally-tally.result.missing, w.answer-is)
      | else-found w ↦ absurd (true≢false (sym yes ∙ w.if-found.false))
    ])
    (λ no. elim c.if-found.branch [
      | then-found w ↦ absurd (true≢false (sym w.if-found.true ∙ no))
      | else-found w ↦ w.answer-is
    ])

pub returns-clause-counted : goal.returns-clause-counted
returns-clause-counted g c = search (rules, length-restored, then-found, sub-zero, else-found)
