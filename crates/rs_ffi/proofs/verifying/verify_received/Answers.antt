use Rattle.std.proofs.Common.{rules}
use Rattle.reed_solomon_simd.specs.ReceivedState.{received_state}
use Rattle.reed_solomon_simd.proofs.VerifyingLemmas.{verifies-uncounted, verifies-refused, verifies-checked}
use Rattle.rs_ffi.specs.Arrays.{items_of}
use Rattle.rs_ffi.proofs.verifying.verify_received.Goals as goal

pub returns-in_err-counts : goal.returns-in_err-counts
returns-in_err-counts g c =
    let led = verifies-uncounted c.args.original_count c.args.recovery_count (items_of c.args.originals.now)
    (items_of c.args.recovery.now) c.in_err-counts.field-0.0 c.in_err-counts.ensures in
    search rules

pub returns-in_err-received : goal.returns-in_err-received
returns-in_err-received g c =
    let led = verifies-refused c.args.original_count c.args.recovery_count (items_of c.args.originals.now)
    (items_of c.args.recovery.now) c.in_err-received.field-0.0
    (rw (c.in_ok-counts.ensures.0, c.in_ok-counts.ensures.1) at c.in_err-received.ensures) in
    search rules

pub returns-in_err-check_enough : goal.returns-in_err-check_enough
returns-in_err-check_enough g c = search rules

pub returns : goal.returns
returns g c =
    verifies-checked c.args.original_count c.args.recovery_count (items_of c.args.originals.now)
    (items_of c.args.recovery.now) (received_state c.in_ok-received.received)
    (rw (c.in_ok-counts.ensures.0, c.in_ok-counts.ensures.1) at c.in_ok-received.ensures)
    c.in_ok-check_enough.ensures _ c.check_consistent.ensures
