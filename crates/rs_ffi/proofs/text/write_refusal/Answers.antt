use Rattle.rs_field.specs.declared.code.error.Error.TheVariants.{DuplicateOriginalShardIndex}
use Rattle.rs_field.specs.declared.code.error.Error.TheVariants.{DuplicateRecoveryShardIndex, InvalidOriginalShardIndex}
use Rattle.rs_field.specs.declared.code.error.Error.TheVariants.{InvalidRecoveryShardIndex, TooFewOriginalShards}
use Rattle.rs_field.specs.code.Texts.{text_of as refusal_text}
use Rattle.rs_ffi.proofs.TextLemmas.{ended}
use Rattle.rs_ffi.proofs.text.write_refusal.Goals as goal

pub returns-in-DuplicateOriginalShardIndex : goal.returns-in-DuplicateOriginalShardIndex
returns-in-DuplicateOriginalShardIndex c =
    rw c.in-DuplicateOriginalShardIndex.is
    (ended (refusal_text (DuplicateOriginalShardIndex c.in-DuplicateOriginalShardIndex.index)) c.args.room.now
    c.write_one.ensures)

pub returns-in-DuplicateRecoveryShardIndex : goal.returns-in-DuplicateRecoveryShardIndex
returns-in-DuplicateRecoveryShardIndex c =
    rw c.in-DuplicateRecoveryShardIndex.is
    (ended (refusal_text (DuplicateRecoveryShardIndex c.in-DuplicateRecoveryShardIndex.index)) c.args.room.now
    c.write_one-in-DuplicateRecoveryShardIndex.ensures)

pub returns-in-InconsistentShards : goal.returns-in-InconsistentShards
returns-in-InconsistentShards c = rw c.in-InconsistentShards.is (c.write_two-in-InconsistentShards.ensures)

pub returns-in-InvalidOriginalShardIndex : goal.returns-in-InvalidOriginalShardIndex
returns-in-InvalidOriginalShardIndex c =
    rw c.in-InvalidOriginalShardIndex.is
    (ended (refusal_text (InvalidOriginalShardIndex c.in-InvalidOriginalShardIndex.original_count
    c.in-InvalidOriginalShardIndex.index)) c.args.room.now c.write_two-in-InvalidOriginalShardIndex.ensures)

pub returns-in-InvalidRecoveryShardIndex : goal.returns-in-InvalidRecoveryShardIndex
returns-in-InvalidRecoveryShardIndex c =
    rw c.in-InvalidRecoveryShardIndex.is
    (ended (refusal_text (InvalidRecoveryShardIndex c.in-InvalidRecoveryShardIndex.recovery_count
    c.in-InvalidRecoveryShardIndex.index)) c.args.room.now c.write_two-in-InvalidRecoveryShardIndex.ensures)

pub returns-in-NotEnoughShards : goal.returns-in-NotEnoughShards
returns-in-NotEnoughShards c = rw c.in-NotEnoughShards.is (c.write_three.ensures)

pub returns-in-TooFewOriginalShards : goal.returns-in-TooFewOriginalShards
returns-in-TooFewOriginalShards c =
    rw c.in-TooFewOriginalShards.is
    (ended (refusal_text (TooFewOriginalShards c.in-TooFewOriginalShards.original_count
    c.in-TooFewOriginalShards.original_received_count)) c.args.room.now c.write_two-in-TooFewOriginalShards.ensures)
