use Rattle.std.proofs.Common.{rules, length, Err, refl}
use Rattle.reed_solomon_simd.specs.declared.reconstruct_error.ReconstructError.TheVariants.{Refused}
use Rattle.reed_solomon_simd.specs.Reconstructed.{rooms_outcome}
use Rattle.reed_solomon_simd.specs.ReceivedState.{received_state}
use Rattle.reed_solomon_simd.proofs.ReconstructLemmas.{reconstructs-uncounted, reconstructs-refused, reconstructs-given}
use Rattle.reed_solomon_simd.proofs.ReconstructLemmas.{reconstructs-lacking}
use Rattle.rs_ffi.specs.Arrays.{items_of, bytes_in, wanted_of}
use Rattle.rs_ffi.proofs.reconstructing.reconstruct_wanted.Goals as goal

pub returns-in_err-counts-clause-answer : goal.returns-in_err-counts-clause-answer
returns-in_err-counts-clause-answer g c =
    let k = c.args.original_count in let r = c.args.recovery_count in
    let own = items_of c.args.received.0.now in let other = items_of c.args.received.1.now in
    let wanted = wanted_of c.args.wanted.now in
    let fit = rooms_outcome (length wanted) (bytes_in c.args.rooms.now) in
    let e = c.in_err-counts.field-0.0 in
    (Err (Refused e), reconstructs-uncounted k r own other wanted fit e c.in_err-counts.ensures, (search rules, refl))

pub returns-in_err-shards-clause-answer : goal.returns-in_err-shards-clause-answer
returns-in_err-shards-clause-answer g c =
    let k = c.args.original_count in let r = c.args.recovery_count in
    let own = items_of c.args.received.0.now in let other = items_of c.args.received.1.now in
    let wanted = wanted_of c.args.wanted.now in
    let fit = rooms_outcome (length wanted) (bytes_in c.args.rooms.now) in
    let e = c.in_err-shards.field-0.0 in (
      Err (Refused e),
      reconstructs-refused k r own other wanted fit e
          (rw (c.in_ok-counts.ensures.0, c.in_ok-counts.ensures.1) at c.in_err-shards.ensures),
      (search rules, refl),
    )

pub returns-in_err-names-clause-answer : goal.returns-in_err-names-clause-answer
returns-in_err-names-clause-answer g c =
    let k = c.args.original_count in let r = c.args.recovery_count in
    let own = items_of c.args.received.0.now in let other = items_of c.args.received.1.now in
    let wanted = wanted_of c.args.wanted.now in
    let fit = rooms_outcome (length wanted) (bytes_in c.args.rooms.now) in
    let s = received_state c.in_ok-shards.shards in
    let is = rw (c.in_ok-counts.ensures.0, c.in_ok-counts.ensures.1) at c.in_ok-shards.ensures in
    let e = c.in_err-names.field-0.0 in (
      Err (Refused e),
      reconstructs-lacking k r own other wanted fit s is e c.in_err-names.ensures,
      (search rules, refl),
    )

pub returns-clause-answer : goal.returns-clause-answer
returns-clause-answer g c =
    let k = c.args.original_count in let r = c.args.recovery_count in
    let own = items_of c.args.received.0.now in let other = items_of c.args.received.1.now in
    let wanted = wanted_of c.args.wanted.now in
    let fit = rooms_outcome (length wanted) (bytes_in c.args.rooms.now) in
    let s = received_state c.in_ok-shards.shards in
    let is = rw (c.in_ok-counts.ensures.0, c.in_ok-counts.ensures.1) at c.in_ok-shards.ensures in
    let (made, answers, writes) =
    rw (c.as_slice.ensures.value, c.in_ok-names.ensures) at c.reconstruct_received.ensures.answer in
    (made, reconstructs-given k r own other wanted fit s is made answers, writes)
