use Rattle.std.proofs.Common.{append_assoc}
use Rattle.rs_field.proofs.code.error.ErrorDisplay.fmt.Goals as goal

pub returns-in-DifferentShardSize-clause-writes : goal.returns-in-DifferentShardSize-clause-writes
returns-in-DifferentShardSize-clause-writes g c =
    rw c.in-DifferentShardSize.is (simp append_assoc c.write.ensures.writes)

pub returns-in-InconsistentShards-clause-writes : goal.returns-in-InconsistentShards-clause-writes
returns-in-InconsistentShards-clause-writes g c =
    rw c.in-InconsistentShards.is (simp append_assoc c.write-in-InconsistentShards.ensures.writes)

pub returns-in-InvalidOriginalShardIndex-clause-writes : goal.returns-in-InvalidOriginalShardIndex-clause-writes
returns-in-InvalidOriginalShardIndex-clause-writes g c =
    rw c.in-InvalidOriginalShardIndex.is (simp append_assoc c.write-in-InvalidOriginalShardIndex.ensures.writes)

pub returns-in-InvalidRecoveryShardIndex-clause-writes : goal.returns-in-InvalidRecoveryShardIndex-clause-writes
returns-in-InvalidRecoveryShardIndex-clause-writes g c =
    rw c.in-InvalidRecoveryShardIndex.is (simp append_assoc c.write-in-InvalidRecoveryShardIndex.ensures.writes)

pub returns-in-NotEnoughShards-clause-writes : goal.returns-in-NotEnoughShards-clause-writes
returns-in-NotEnoughShards-clause-writes g c =
    rw c.in-NotEnoughShards.is (simp append_assoc c.write-in-NotEnoughShards.ensures.writes)

pub returns-in-TooFewOriginalShards-clause-writes : goal.returns-in-TooFewOriginalShards-clause-writes
returns-in-TooFewOriginalShards-clause-writes g c =
    rw c.in-TooFewOriginalShards.is (simp append_assoc c.write-in-TooFewOriginalShards.ensures.writes)

pub returns-in-UnsupportedShardCount-clause-writes : goal.returns-in-UnsupportedShardCount-clause-writes
returns-in-UnsupportedShardCount-clause-writes g c =
    rw c.in-UnsupportedShardCount.is (simp append_assoc c.write-in-UnsupportedShardCount.ensures.writes)
