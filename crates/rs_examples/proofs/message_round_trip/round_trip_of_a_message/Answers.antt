use Rattle.std.proofs.Common.{rules, ◌≡◌, refl}
use Rattle.reed_solomon_simd.specs.declared.Error.TheVariants.{OutOfMemory}
use Rattle.rs_examples.proofs.MessageBack.{counted-some, lent-shards, lent-valid, split-some}
use Rattle.rs_examples.proofs.message_round_trip.round_trip_of_a_message.Goals as goal

pub returns-in_err-vectors-clause-enough : goal.returns-in_err-vectors-clause-enough
returns-in_err-vectors-clause-enough c counted many =
    let lacks = c.in_err-vectors.ensures.shards (counted-some c.args.original_count c.args.recovery_count counted) in
    search rules

pub returns-in_err-restored-clause-enough : goal.returns-in_err-restored-clause-enough
returns-in_err-restored-clause-enough c counted many =
    let are = c.in_ok-vectors.ensures.shards (counted-some c.args.original_count c.args.recovery_count counted) in
    let lent = lent-valid c.args.recovery_count c.args.lost.now c.args.recovery_lost.now
    c.as_slice-originals.ensures.value are counted many in
    let lacks : c.in_err-restored.field-0.0 ≡ OutOfMemory =
    c.in_err-restored.ensures.enough lent.0 lent.1 lent.2 lent.3 in
    search rules

pub put_together-requires : goal.put_together-requires
put_together-requires c = c.in_ok-restored.ensures.restored

pub returns-clause-same : goal.returns-clause-same
returns-clause-same c =
    let are = c.in_ok-vectors.ensures.shards
    (split-some c.in_ok-vectors.ensures.none) in
    c.put_together.ensures.same c.args.message.now refl (lent-shards c.as_slice-originals.ensures.value are)

pub returns-clause-enough : goal.returns-clause-enough
returns-clause-enough c counted many =
    let are = c.in_ok-vectors.ensures.shards (counted-some c.args.original_count c.args.recovery_count counted) in
    c.put_together.ensures.refused c.args.message.now refl (lent-shards c.as_slice-originals.ensures.value are)
