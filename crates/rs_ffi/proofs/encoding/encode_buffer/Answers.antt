use Rattle.std.proofs.Common.{rules, ◌≡◌, length, Ok, Err, sym, ◌∙◌, refl}
use Rattle.rs_field.specs.declared.code.error.Error.TheVariants.{OutOfMemory}
use Rattle.reed_solomon_simd.proofs.Checking.{checked-encodes}
use Rattle.rs_ffi.specs.Buffers.{shards_in_buffer}
use Rattle.rs_ffi.proofs.CutLemmas.{joined-cut, cut-same}
use Rattle.rs_ffi.proofs.EncodeLemmas.{fits-length, buffer-checked, buffer-unset, encodes}
use Rattle.rs_ffi.proofs.encoding.encode_buffer.Goals as goal

pub returns-in_err-check_encoder_rows : goal.returns-in_err-check_encoder_rows
returns-in_err-check_encoder_rows g c =
    let k = c.args.original_count in let r = c.args.recovery_count in
    let supported = rw (c.in_ok-counts.ensures.0, c.in_ok-counts.ensures.1) at c.in_ok-counts.counts.supported in
    let e = c.in_err-check_encoder_rows.field-0.0 in
    encodes k r c.args.shard_bytes c.args.originals.now c.args.recovery.now _ _ (Err e) supported
    c.in_ok-check_length.ensures c.in_ok-check_length-2.ensures
    (buffer-unset k r c.args.shard_bytes c.args.originals.now e supported
    (fits-length 0 k c.args.shard_bytes (length c.args.originals.now) c.in_ok-check_length.ensures)
    (rw (c.in_ok-counts.ensures.0, c.in_ok-counts.ensures.1) at c.in_err-check_encoder_rows.ensures))
    (search rules, refl)

pub write_recovery-requires-clause-valid : goal.write_recovery-requires-clause-valid
write_recovery-requires-clause-valid g c = (search rules)

pub returns-in_err-write_recovery : goal.returns-in_err-write_recovery
returns-in_err-write_recovery g c =
    let k = c.args.original_count in let r = c.args.recovery_count in
    let size = c.args.shard_bytes in
    let supported = rw (c.in_ok-counts.ensures.0, c.in_ok-counts.ensures.1) at c.in_ok-counts.counts.supported in
    let made = rw (c.in_ok-counts.ensures.0, c.in_ok-counts.ensures.1) at c.in_ok-check_encoder_rows.ensures in
    let e = c.in_err-write_recovery.field-0.0 in
    let lacks : c.in_err-write_recovery.field-0.0 ≡ OutOfMemory =
    (let refused = c.in_err-write_recovery.ensures.refused in cc) in
    let own = fits-length 0 k c.args.shard_bytes (length c.args.originals.now) c.in_ok-check_length.ensures in
    let whole = fits-length 1 r c.args.shard_bytes (length c.args.recovery.now) c.in_ok-check_length-2.ensures in
    let untouched = rw c.in_ok-counts.ensures.1 at c.in_err-write_recovery.ensures.untouched in
    let same : c.write_recovery.new.recovery ≡ c.args.recovery.now =
    cut-same r c.args.shard_bytes c.write_recovery.new.recovery c.args.recovery.now
    (c.in_err-write_recovery.ensures.whole ∙ whole) c.in_err-write_recovery.ensures.whole untouched in
    encodes k r c.args.shard_bytes c.args.originals.now c.args.recovery.now _ _ (Err e) supported
    c.in_ok-check_length.ensures c.in_ok-check_length-2.ensures
    (checked-encodes k r c.args.shard_bytes (shards_in_buffer k c.args.shard_bytes c.args.originals.now)
    (buffer-checked k r c.args.shard_bytes c.args.originals.now supported own c.are_bytes.ensures.all made)
    (Err e) lacks)
    (search rules, same)

pub returns : goal.returns
returns g c =
    let k = c.args.original_count in let r = c.args.recovery_count in
    let supported = rw (c.in_ok-counts.ensures.0, c.in_ok-counts.ensures.1) at c.in_ok-counts.counts.supported in
    let set_up = rw (c.in_ok-counts.ensures.0, c.in_ok-counts.ensures.1) at c.in_ok-check_encoder_rows.ensures in
    let own = fits-length 0 k c.args.shard_bytes (length c.args.originals.now) c.in_ok-check_length.ensures in
    let whole = fits-length 1 r c.args.shard_bytes (length c.args.recovery.now) c.in_ok-check_length-2.ensures in
    let coded = rw (c.in_ok-counts.ensures.0, c.in_ok-counts.ensures.1) at c.in_ok-write_recovery.ensures.coded in
    let made = shards_in_buffer r c.args.shard_bytes c.write_recovery.new.recovery in
    encodes k r c.args.shard_bytes c.args.originals.now c.args.recovery.now _ _ (Ok made) supported
    c.in_ok-check_length.ensures c.in_ok-check_length-2.ensures
    (checked-encodes k r c.args.shard_bytes (shards_in_buffer k c.args.shard_bytes c.args.originals.now)
    (buffer-checked k r c.args.shard_bytes c.args.originals.now supported own c.are_bytes.ensures.all set_up)
    (Ok made) coded) (
      refl,
      sym (joined-cut r c.args.shard_bytes c.write_recovery.new.recovery
          (c.in_ok-write_recovery.ensures.whole ∙ whole)),
    )
