use Rattle.std.proofs.Common.{rules, ◌≡◌, Err, map, not, length, arith}
use Rattle.std.proofs.lemmas.List.{length-map}
use Rattle.std.proofs.lemmas.List.Elements.{All-map}
use Rattle.std.proofs.lemmas.Iterator.{YieldsList-from_slice, YieldsList-from_map_by}
use Rattle.reed_solomon_simd.specs.declared.Error.TheVariants.{OutOfMemory}
use Rattle.reed_solomon_simd.specs.OneCall.{collected_map}
use Rattle.reed_solomon_simd.proofs.CallerLemmas.{collected_shards-holds, collected_shards-refused}
use Rattle.reed_solomon_simd.proofs.Left.{kept_of, kept-left, just-lost, enough-left}
use Rattle.reed_solomon_simd.proofs.OneRoundTrip.{encodes_in_one_call, restores_in_one_call}
use Rattle.rs_examples.specs.Losing.{is_lost}
use Rattle.rs_examples.proofs.Chains.{numbered, filtered}
use Rattle.rs_examples.proofs.LeftCount.{left-number}
use Rattle.rs_examples.proofs.round_trip.round_trip_in_one_call.Goals as goal

pub returns-in_err-recovery-clause-enough : goal.returns-in_err-recovery-clause-enough
returns-in_err-recovery-clause-enough c size valid sized many =
    let originals = map (λ vector. vector.items) c.args.originals.now in
    let answer = c.in_err-recovery.ensures.answer originals
    (YieldsList-from_map_by _ (λ shard. shard.now) (λ vector. vector.items)
    (YieldsList-from_slice c.args.originals.now cc) c.map-shards.ensures.closure (λ x r q k. search rules)).runs in
    let short : c.in_err-recovery.field-0.0 ≡ OutOfMemory =
    encodes_in_one_call (length c.args.originals.now) c.args.recovery_count size originals
    (Err c.in_err-recovery.field-0.0) valid (length-map c.args.originals.now (λ vector. vector.items))
    (All-map (λ shard. length shard ≡ size) (λ vector. vector.items) c.args.originals.now sized) answer
    in
    search rules

pub returns : goal.returns
returns c =
    let originals = map (λ vector. vector.items) c.args.originals.now in let recovery =
    map (λ vector. vector.items) c.in_ok-recovery.recovery.items in
    let lost = is_lost c.args.lost.now in let recovery_lost = is_lost c.args.recovery_lost.now in
    let was = c.in_ok-recovery.ensures.coded originals
    (YieldsList-from_map_by _ (λ shard. shard.now) (λ vector. vector.items)
    (YieldsList-from_slice c.args.originals.now cc) c.map-shards.ensures.closure (λ x r q k. search rules)).runs in
    let answer = c.decode.ensures.answer (kept_of originals lost) (kept_of recovery recovery_lost)
    (filtered c.filter-kept.result _ (λ item. not (lost item.0)) _
    (numbered c.enumerate.result
    (YieldsList-from_map_by _ (λ shard. shard.now) (λ vector. vector.items)
    (YieldsList-from_slice c.args.originals.now cc) c.map.ensures.closure (λ x r q k. search rules))
    c.enumerate.ensures.source c.enumerate.ensures.count)
    c.filter-kept.ensures.source c.filter-kept.ensures.closure (λ x b q k. search rules)).runs
    (filtered c.filter-received.result _ (λ item. not (recovery_lost item.0)) _
    (numbered c.enumerate-2.result
    (YieldsList-from_map_by _ (λ shard. shard.now) (λ vector. vector.items)
    (YieldsList-from_slice c.in_ok-recovery.recovery.items cc) c.map-2.ensures.closure (λ x r q k. search rules))
    c.enumerate-2.ensures.source c.enumerate-2.ensures.count)
    c.filter-received.ensures.source c.filter-received.ensures.closure (λ x b q k. search rules)).runs in
    let back = restores_in_one_call _ _ originals recovery _ _ (collected_map c.decode.result) was
    (kept-left originals lost) (kept-left recovery recovery_lost) answer in
    record {
      restored = collected_shards-holds c.decode.result _
          (just-lost originals lost (collected_map c.decode.result) back.restored);
      enough = λ size valid sized many.
          let long : length originals ≡ length c.args.originals.now =
          length-map c.args.originals.now (λ vector. vector.items) in
          let own = left-number c.args.lost.now originals long in
          let coded = left-number c.args.recovery_lost.now recovery was.coded.shards.length_is in
          collected_shards-refused c.decode.result (λ e. e ≡ OutOfMemory)
          (enough-left originals (kept_of originals lost) (kept_of recovery recovery_lost)
          (collected_map c.decode.result) back (omega (arith, long, own, coded, many)));
    }
