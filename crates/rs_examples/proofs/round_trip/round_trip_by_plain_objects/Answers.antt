use Rattle.std.proofs.Common.{rules, ◌≡◌, map, length}
use Rattle.std.proofs.lemmas.List.{length-map}
use Rattle.std.proofs.lemmas.List.Elements.{All-map}
use Rattle.reed_solomon_simd.specs.DecoderObject.{state_of as decoder_state}
use Rattle.reed_solomon_simd.specs.EncoderObject.{state_of as encoder_state}
use Rattle.reed_solomon_simd.specs.ResultView.{recovery_shards, restored_originals}
use Rattle.reed_solomon_simd.specs.declared.Error.TheVariants.{OutOfMemory}
use Rattle.reed_solomon_simd.proofs.ObjectLaws.{valid-encoder}
use Rattle.reed_solomon_simd.proofs.Giving.{reached-ok}
use Rattle.reed_solomon_simd.proofs.ObjectRoundTrip.{gives-all, encodes}
use Rattle.rs_examples.proofs.ObjectsBack.{kept-taken, received-taken, only-memory, copies-back}
use Rattle.rs_examples.proofs.round_trip.round_trip_by_plain_objects.Goals as goal

pub returns-in_err-give_all-clause-enough : goal.returns-in_err-give_all-clause-enough
returns-in_err-give_all-clause-enough c valid sized many =
    let originals = map (λ vector. vector.items) c.args.originals.now in
    absurd (gives-all _ originals (encoder_state c.in_ok-encoder.encoder) c.in_ok-encoder.ensures.made.0
    (length-map c.args.originals.now (λ vector. vector.items))
    (All-map (λ shard. length shard ≡ c.args.shard_bytes) (λ vector. vector.items) c.args.originals.now sized)
    _ _ c.in_err-give_all.ensures)

pub returns-in_err-recovery-clause-enough : goal.returns-in_err-recovery-clause-enough
returns-in_err-recovery-clause-enough c valid sized many =
    let originals = map (λ vector. vector.items) c.args.originals.now in
    absurd (encodes _ originals (encoder_state c.in_ok-encoder.encoder) c.in_ok-encoder.ensures.made.0
    (length-map c.args.originals.now (λ vector. vector.items))
    (All-map (λ shard. length shard ≡ c.args.shard_bytes) (λ vector. vector.items) c.args.originals.now sized)
    (encoder_state c.give_all.new.encoder) c.in_err-recovery.field-0.0
    (reached-ok _ (encoder_state c.give_all.new.encoder) c.in_ok-give_all.ensures) c.in_err-recovery.ensures.answer)

pub returns-in_err-give_kept-clause-enough : goal.returns-in_err-give_kept-clause-enough
returns-in_err-give_kept-clause-enough c valid sized many =
    absurd (kept-taken (map (λ vector. vector.items) c.args.originals.now) (recovery_shards c.in_ok-recovery.recovery)
    c.args.lost.now c.args.recovery_lost.now c.in_ok-encoder.ensures.made.0 c.in_ok-give_all.ensures
    (valid-encoder c.give_all.new.encoder) c.in_ok-recovery.ensures.answer c.in_ok-decoder.ensures.made.0
    _ _ c.in_err-give_kept.ensures)

pub returns-in_err-give_received-clause-enough : goal.returns-in_err-give_received-clause-enough
returns-in_err-give_received-clause-enough c valid sized many =
    absurd (received-taken (map (λ vector. vector.items) c.args.originals.now)
    (recovery_shards c.in_ok-recovery.recovery)
    c.args.lost.now c.args.recovery_lost.now c.in_ok-encoder.ensures.made.0 c.in_ok-give_all.ensures
    (valid-encoder c.give_all.new.encoder) c.in_ok-recovery.ensures.answer c.in_ok-decoder.ensures.made.0
    (decoder_state c.give_kept.new.decoder) c.in_ok-give_kept.ensures
    _ _ c.in_err-give_received.ensures)

pub returns-in_err-restored-clause-enough : goal.returns-in_err-restored-clause-enough
returns-in_err-restored-clause-enough c valid sized many =
    let short : c.in_err-restored.field-0.0 ≡ OutOfMemory =
    only-memory (map (λ vector. vector.items) c.args.originals.now) (recovery_shards c.in_ok-recovery.recovery)
    c.args.lost.now c.args.recovery_lost.now c.in_ok-encoder.ensures.made.0 c.in_ok-give_all.ensures
    (valid-encoder c.give_all.new.encoder) c.in_ok-recovery.ensures.answer c.in_ok-decoder.ensures.made.0
    (decoder_state c.give_kept.new.decoder) c.in_ok-give_kept.ensures
    (decoder_state c.give_received.new.decoder) c.in_ok-give_received.ensures
    c.in_err-restored.field-0.0 c.in_err-restored.ensures.answer many in
    search rules

pub returns-clause-restored : goal.returns-clause-restored
returns-clause-restored c =
    copies-back (map (λ vector. vector.items) c.args.originals.now) (recovery_shards c.in_ok-recovery.recovery)
    c.args.lost.now c.args.recovery_lost.now c.in_ok-encoder.ensures.made.0 c.in_ok-give_all.ensures
    (valid-encoder c.give_all.new.encoder) c.in_ok-recovery.ensures.answer c.in_ok-decoder.ensures.made.0
    (decoder_state c.give_kept.new.decoder) c.in_ok-give_kept.ensures
    (decoder_state c.give_received.new.decoder) c.in_ok-give_received.ensures
    (restored_originals c.in_ok-restored.restored) c.restored_copies.result
    (λ copies. map (λ item. (item.0, item.1.items)) copies.items) c.in_ok-restored.ensures.answer
    c.restored_copies.ensures.copies

pub returns-clause-enough : goal.returns-clause-enough
returns-clause-enough c valid sized many = c.restored_copies.ensures.memory
