use Rattle.std.proofs.Common.{rules, ℕ, ◌∷◌, Ok, Err}
use Rattle.rs_field.specs.code.Column.{Shard}
use Rattle.rs_field.specs.code.Decoder.{with_recovery}
use Rattle.reed_solomon_simd.specs.ReceivedState.{received_state}
use Rattle.rs_rate.proofs.objects_lemmas.Giving.{no-calls, ended-both, first-both, outcome-ok, outcome-err, reached-ok}
use Rattle.rs_rate.proofs.objects_lemmas.Giving.{reached-err, adds-ok, adds-err}
use Rattle.rs_rate.proofs.objects_lemmas.OneCall.{decoding-none, decoding-unset, decoding-given, both-ok, both-err}
use Rattle.reed_solomon_simd.proofs.receiving.received_shards.Goals as goal

pub returns-in_err-check_originals_alone : goal.returns-in_err-check_originals_alone
returns-in_err-check_originals_alone g c =
    ended-both (λ item. (item.0, item.1.now))
    (λ item. (item.0, item.1.now)) _ c.args.recovery c.next.new.self c.in_default.ensures.steps (
      c.in_err-check_originals_alone.ensures.0,
      λ originals begins. let led =
          decoding-none c.args.counts.original_count c.args.counts.recovery_count originals
          (Err c.in_err-check_originals_alone.field-0.0) c.args.counts.supported
          (c.in_err-check_originals_alone.ensures.1 originals begins) in search rules,
    )

pub returns-in_default : goal.returns-in_default
returns-in_default g c =
    ended-both (λ item. (item.0, item.1.now))
    (λ item. (item.0, item.1.now)) _ c.args.recovery c.next.new.self c.in_default.ensures.steps (
      c.in_ok-check_originals_alone.ensures.0,
      λ originals begins.
          decoding-none c.args.counts.original_count c.args.counts.recovery_count originals
          (Ok tt) c.args.counts.supported (c.in_ok-check_originals_alone.ensures.1 originals begins),
    )

pub returns-in_err-received : goal.returns-in_err-received
returns-in_err-received g c =
    let item : ℕ × Shard = (c.in-Some.first_index, c.in-Some.first_shard.now) in
    first-both (λ item. (item.0, item.1.now))
    (λ item. (item.0, item.1.now)) _ {item = (c.in-Some.first_index, c.in-Some.first_shard)} c.in-Some.ensures.steps (
      no-calls c.args.original,
      no-calls c.next.new.self,
      λ originals others begins further.
          let led = decoding-unset c.args.counts.original_count c.args.counts.recovery_count originals item others _
          c.in_err-received.ensures.answer in search rules,
    )

pub returns-in_err-add_originals : goal.returns-in_err-add_originals
returns-in_err-add_originals g c =
    let item : ℕ × Shard = (c.in-Some.first_index, c.in-Some.first_shard.now) in
    let made = received_state c.in_ok-received.received in
    first-both (λ item. (item.0, item.1.now))
    (λ item. (item.0, item.1.now)) _ {item = (c.in-Some.first_index, c.in-Some.first_shard)} c.in-Some.ensures.steps (
      c.in_err-add_originals.ensures.0,
      no-calls c.next.new.self,
      λ originals others begins further.
          let led = decoding-given c.args.counts.original_count c.args.counts.recovery_count originals item others _
          c.in_ok-received.ensures.answer c.in_ok-received.ensures.made _
          (both-err made originals (item ∷ others) _
          (reached-err _ _ _ (c.in_err-add_originals.ensures.1 originals begins))) in search rules,
    )

pub returns-in_err-add_recovery : goal.returns-in_err-add_recovery
returns-in_err-add_recovery g c =
    let item : ℕ × Shard = (c.in-Some.first_index, c.in-Some.first_shard.now) in
    let made = received_state c.in_ok-received.received in
    let given = received_state c.add_originals.new.received in
    first-both (λ item. (item.0, item.1.now))
    (λ item. (item.0, item.1.now)) _ {item = (c.in-Some.first_index, c.in-Some.first_shard)} c.in-Some.ensures.steps (
      c.in_ok-add_originals.ensures.0,
      no-calls c.next.new.self,
      λ originals others begins further.
          let led = decoding-given c.args.counts.original_count c.args.counts.recovery_count originals item others _
          c.in_ok-received.ensures.answer c.in_ok-received.ensures.made _
          (both-ok made given originals (item ∷ others) _
          (reached-ok _ _ (c.in_ok-add_originals.ensures.1 originals begins))
          (adds-err (λ now item. with_recovery now item.0 item.1) given item others _
          (outcome-err (with_recovery given item.0 item.1) _ c.in_err-add_recovery.ensures.answer))) in
          search rules,
    )

pub returns-in_err-add_recovery-2 : goal.returns-in_err-add_recovery-2
returns-in_err-add_recovery-2 g c =
    let item : ℕ × Shard = (c.in-Some.first_index, c.in-Some.first_shard.now) in
    let made = received_state c.in_ok-received.received in
    let given = received_state c.add_originals.new.received in
    let added = received_state c.add_recovery.new.self in
    first-both (λ item. (item.0, item.1.now))
    (λ item. (item.0, item.1.now)) _ {item = (c.in-Some.first_index, c.in-Some.first_shard)} c.in-Some.ensures.steps (
      c.in_ok-add_originals.ensures.0,
      c.in_err-add_recovery-2.ensures.0,
      λ originals others begins further.
          let led = decoding-given c.args.counts.original_count c.args.counts.recovery_count originals item others _
          c.in_ok-received.ensures.answer c.in_ok-received.ensures.made _
          (both-ok made given originals (item ∷ others) _
          (reached-ok _ _ (c.in_ok-add_originals.ensures.1 originals begins))
          (adds-ok (λ now item. with_recovery now item.0 item.1) given added item others _
          (outcome-ok given added
          (with_recovery given item.0 item.1) c.in_ok-add_recovery.ensures.answer c.in_ok-add_recovery.ensures.left)
          (reached-err _ _ _ (c.in_err-add_recovery-2.ensures.1 others further)))) in search rules,
    )

pub returns : goal.returns
returns g c =
    let item : ℕ × Shard = (c.in-Some.first_index, c.in-Some.first_shard.now) in
    let made = received_state c.in_ok-received.received in
    let given = received_state c.add_originals.new.received in
    let added = received_state c.add_recovery.new.self in
    first-both (λ item. (item.0, item.1.now))
    (λ item. (item.0, item.1.now)) _ {item = (c.in-Some.first_index, c.in-Some.first_shard)} c.in-Some.ensures.steps (
      c.in_ok-add_originals.ensures.0,
      c.in_ok-add_recovery-2.ensures.0,
      λ originals others begins further.
          decoding-given c.args.counts.original_count c.args.counts.recovery_count originals item others _
          c.in_ok-received.ensures.answer c.in_ok-received.ensures.made _
          (both-ok made given originals (item ∷ others) _
          (reached-ok _ _ (c.in_ok-add_originals.ensures.1 originals begins))
          (adds-ok (λ now item. with_recovery now item.0 item.1) given added item others _
          (outcome-ok given added
          (with_recovery given item.0 item.1) c.in_ok-add_recovery.ensures.answer c.in_ok-add_recovery.ensures.left)
          (reached-ok _ _ (c.in_ok-add_recovery-2.ensures.1 others further)))),
    )
