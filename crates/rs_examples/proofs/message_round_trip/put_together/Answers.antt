use Rattle.std.proofs.Common.{rules, ◌≡◌, ◌∙◌, ℕ, List, Ok, Err, IfOk, IfErr, map, length, ap}
use Rattle.reed_solomon_simd.specs.Messages.{AreShardsOf}
use Rattle.reed_solomon_simd.specs.declared.Error.TheVariants.{OutOfMemory}
use Rattle.rs_examples.proofs.MessageBack.{message-joined, vectors-completed}
use Rattle.rs_examples.proofs.message_round_trip.put_together.Goals.{After-join}
use Rattle.rs_examples.proofs.message_round_trip.put_together.Goals as goal

pub returns-in_err-all-clause-refused : goal.returns-in_err-all-clause-refused
returns-in_err-all-clause-refused c message long are =
    let lacks : c.in_err-all.field-0.0 ≡ OutOfMemory =
    vectors-completed c.args.originals.now c.args.lost.now {result = Err c.in_err-all.field-0.0} are
    c.deref.ensures.value c.in_ok-kept.ensures c.requires c.in_err-all.ensures in
    search rules

-- The vectors that were joined are the message, or memory could not be allocated.
joined : (c : After-join) (message : List ℕ) → length message ≡ c.args.total
    → AreShardsOf (length c.args.originals.now) message (map (λ shard. shard.items) c.args.originals.now)
    → IfOk c.join.result (λ back. back.items ≡ message) × IfErr c.join.result (λ e. e ≡ OutOfMemory)
joined c message long are =
    let all = vectors-completed c.args.originals.now c.args.lost.now
    {result = Ok (map (λ vector. vector.items) c.in_ok-all.all.items)} are
    c.deref.ensures.value c.in_ok-kept.ensures c.requires c.in_ok-all.ensures in
    message-joined c.join.result are long (ap (map (λ vector. vector.items)) c.deref-2.ensures.value ∙ all)
    c.join.ensures

pub returns-clause-same : goal.returns-clause-same
returns-clause-same c message long are =
    (joined (goal.at.returns-clause-same c).After-join message long are).0

pub returns-clause-refused : goal.returns-clause-refused
returns-clause-refused c message long are =
    (joined (goal.at.returns-clause-refused c).After-join message long are).1
