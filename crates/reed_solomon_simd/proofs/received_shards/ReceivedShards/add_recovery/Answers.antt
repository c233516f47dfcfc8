use Rattle.std.proofs.Common.{◌<◌, subst, sym, arith}
use Rattle.rs_field.specs.code.Given.{AreWithin}
use Rattle.reed_solomon_simd.proofs.ReceivedLemmas.{entered-within}
use Rattle.reed_solomon_simd.proofs.received_shards.ReceivedShards.add_recovery.Goals as goal

pub invariant_of-self-clause-recovery_within : goal.invariant_of-self-clause-recovery_within
invariant_of-self-clause-recovery_within c =
    let x = c.args.self.now in
    let inside : c.args.index < x.counts.recovery_count = omega (arith, c.if-index-recovery_count.false) in
    subst (AreWithin x.counts.recovery_count x.shard_bytes) (sym c.enter.ensures.entered)
    (entered-within x.counts.recovery_count x.shard_bytes _ c.args.index c.args.shard.now inside
    c.in_ok-check_size.ensures.shard x.recovery_within)
