use Rattle.std.proofs.Common.{rules}
use Rattle.reed_solomon_simd.specs.ReceivedState.{received_state}
use Rattle.rs_rate.proofs.objects_lemmas.Giving.{no-calls, reached-ok, reached-err}
use Rattle.rs_rate.proofs.objects_lemmas.OneCall.{both-ok, both-err}
use Rattle.reed_solomon_simd.proofs.ReceivingLemmas.{receiving-given}
use Rattle.reed_solomon_simd.proofs.receiving.received_of_size.Goals as goal

pub returns-in_default : goal.returns-in_default
returns-in_default g c = search (rules, no-calls)

pub returns-in_err-received : goal.returns-in_err-received
returns-in_err-received g c = search (rules, no-calls)

pub returns-in_err-add_originals : goal.returns-in_err-add_originals
returns-in_err-add_originals g c = (
  c.in_err-add_originals.ensures.0,
  no-calls c.args.recovery,
  λ originals recoveries begins further sized.
      let led = receiving-given c.args.counts.original_count c.args.counts.recovery_count originals recoveries
      c.in-Some.shard_bytes (rw c.in-Some.is at sized) (received_state c.in_ok-received.received)
      c.in_ok-received.ensures.answer c.in_ok-received.ensures.made _
      (both-err (received_state c.in_ok-received.received) originals recoveries _
      (reached-err _ _ _ (c.in_err-add_originals.ensures.1 originals begins))) in
      search rules,
)

pub returns-in_err-add_recovery : goal.returns-in_err-add_recovery
returns-in_err-add_recovery g c = (
  c.in_ok-add_originals.ensures.0,
  c.in_err-add_recovery.ensures.0,
  λ originals recoveries begins further sized.
      let led = receiving-given c.args.counts.original_count c.args.counts.recovery_count originals recoveries
      c.in-Some.shard_bytes (rw c.in-Some.is at sized) (received_state c.in_ok-received.received)
      c.in_ok-received.ensures.answer c.in_ok-received.ensures.made _
      (both-ok (received_state c.in_ok-received.received) (received_state c.add_originals.new.received)
      originals recoveries _ (reached-ok _ _ (c.in_ok-add_originals.ensures.1 originals begins))
      (reached-err _ _ _ (c.in_err-add_recovery.ensures.1 recoveries further))) in
      search rules,
)

pub returns : goal.returns
returns g c = (
  c.in_ok-add_originals.ensures.0,
  c.in_ok-add_recovery.ensures.0,
  λ originals recoveries begins further sized.
      receiving-given c.args.counts.original_count c.args.counts.recovery_count originals recoveries
      c.in-Some.shard_bytes (rw c.in-Some.is at sized) (received_state c.in_ok-received.received)
      c.in_ok-received.ensures.answer c.in_ok-received.ensures.made _
      (both-ok (received_state c.in_ok-received.received) (received_state c.add_originals.new.received)
      originals recoveries _ (reached-ok _ _ (c.in_ok-add_originals.ensures.1 originals begins))
      (reached-ok _ _ (c.in_ok-add_recovery.ensures.1 recoveries further))),
)
