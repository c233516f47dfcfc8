use Rattle.reed_solomon_simd.proofs.ReceivedLemmas.{none-within}
use Rattle.reed_solomon_simd.proofs.received_shards.ReceivedShards.new.Goals as goal

pub invariant_of-result-clause-originals_within : goal.invariant_of-result-clause-originals_within
invariant_of-result-clause-originals_within c =
    none-within c.args.counts.original_count c.args.shard_bytes _ c.in_ok-new.ensures.1

pub invariant_of-result-clause-recovery_within : goal.invariant_of-result-clause-recovery_within
invariant_of-result-clause-recovery_within c =
    none-within c.args.counts.recovery_count c.args.shard_bytes _ c.in_ok-new-2.ensures.1
