use Rattle.std.proofs.Common.{rules, ◌≡◌, Err, map, length}
use Rattle.std.proofs.lemmas.List.{length-map}
use Rattle.std.proofs.lemmas.List.Elements.{All-map}
use Rattle.reed_solomon_simd.specs.declared.Error.TheVariants.{OutOfMemory}
use Rattle.reed_solomon_simd.proofs.OneRoundTrip.{encodes_in_one_call}
use Rattle.rs_examples.proofs.ReconstructLaws.{lost_come_back, lost_refused}
use Rattle.rs_examples.proofs.reconstruct_round_trip.round_trip_by_reconstruct.Goals as goal

pub returns-in_err-recovery-clause-enough : goal.returns-in_err-recovery-clause-enough
returns-in_err-recovery-clause-enough c size valid sized many =
    let originals = map (λ vector. vector.items) c.args.originals.now in
    let short : c.in_err-recovery.field-0.0 ≡ OutOfMemory =
    encodes_in_one_call (length c.args.originals.now) c.args.recovery_count size originals
    (Err c.in_err-recovery.field-0.0) valid (length-map c.args.originals.now (λ vector. vector.items))
    (All-map (λ shard. length shard ≡ size) (λ vector. vector.items) c.args.originals.now sized)
    c.in_err-recovery.ensures.answer
    in
    search rules

pub returns-in_err-shards-clause-enough : goal.returns-in_err-shards-clause-enough
returns-in_err-shards-clause-enough c size valid sized many = search (rules, lost_refused)

pub returns-clause-restored : goal.returns-clause-restored
returns-clause-restored c = search (rules, lost_come_back)
