use Rattle.std.proofs.Common.{rules, ◌≡◌, ◌+◌, List, length, Ok, ap, ◌∙◌, sym, refl, inr}
use Rattle.std.proofs.lemmas.List.{length-map}
use Rattle.rs_field.specs.declared.code.error.Error.TheVariants.{OutOfMemory}
use Rattle.rs_field.specs.code.Column.{Shard}
use Rattle.rs_field.specs.code.Decoder.{DecoderState, originals_given}
use Rattle.reed_solomon_simd.specs.ReceivedState.{received_state}
use Rattle.reed_solomon_simd.specs.Rooms.{bytes_in}
use Rattle.reed_solomon_simd.proofs.RestoringLemmas.{restores-few, restores-refused, restores-filled, restored-fit}
use Rattle.reed_solomon_simd.proofs.restoring.restore_into.Goals as goal

pub returns-in_err-check_enough-clause-answer : goal.returns-in_err-check_enough-clause-answer
returns-in_err-check_enough-clause-answer g c =
    let old = bytes_in c.args.rooms.now in
    restores-few (received_state c.args.received.now) c.in_err-check_enough.field-0.0 old old _
    c.in_err-check_enough.ensures (search rules) refl

pub returns-in_err-restore_lent-clause-answer : goal.returns-in_err-restore_lent-clause-answer
returns-in_err-restore_lent-clause-answer g c =
    let s : DecoderState = received_state c.args.received.now in
    let e = c.in_err-restore_lent.field-0.0 in
    let lacks : c.in_err-restore_lent.field-0.0 ≡ OutOfMemory =
    (let refused = c.in_err-restore_lent.ensures.refused in cc) in
    restores-refused s (sym c.in_ok-check_enough.ensures) e (bytes_in c.args.rooms.now)
    (bytes_in c.restore_lent.new.rooms) _
    (inr lacks) (search rules) c.in_err-restore_lent.ensures.untouched

pub returns-then-can_be_written-clause-answer : goal.returns-then-can_be_written-clause-answer
returns-then-can_be_written-clause-answer g c =
    let s : DecoderState = received_state c.args.received.now in
    let old : List Shard = bytes_in c.args.rooms.now in
    let made : List Shard = bytes_in c.restore_lent.new.rooms in
    let holds = c.in_ok-restore_lent.ensures.restored in
    let number : length (bytes_in c.args.rooms.now) + originals_given (received_state c.args.received.now)
    ≡ c.args.received.now.counts.original_count =
    ap (λ n. n + originals_given (received_state c.args.received.now)) (length-map c.args.rooms.now (λ room. room.now))
    ∙ c.can_be_written.ensures.number c.if-can_be_written.true in
    restores-filled s (sym c.in_ok-check_enough.ensures) made old made (Ok tt) holds (Ok tt)
    (sym (restored-fit s made old holds number (c.can_be_written.ensures.fit c.if-can_be_written.true))) (refl, refl)
