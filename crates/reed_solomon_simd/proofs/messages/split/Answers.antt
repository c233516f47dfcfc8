use Rattle.std.proofs.Common.{rules, ◌∙◌, map, length, arith}
use Rattle.std.proofs.lemmas.List.{length-map, map_push, nil_from_length}
use Rattle.reed_solomon_simd.proofs.MessageLemmas.{longer-holds, cut-next, cut-all}
use Rattle.reed_solomon_simd.proofs.messages.split.Goals as goal

pub returns-in_default-clause-shards : goal.returns-in_default-clause-shards
returns-in_default-clause-shards c some =
    let large = c.in_default.ensures _ (longer-holds (length c.args.bytes.now) c.args.original_count some) in
    absurd (omega (arith, large))

pub loop-preserved : goal.loop-preserved
loop-preserved c = search (rules, nil_from_length, cut-next, map_push)

pub returns-clause-shards : goal.returns-clause-shards
returns-clause-shards c some =
    cut-all c.args.bytes.now c.args.original_count c.in-Some.size (map (λ shard. shard.items) c.loop.shards.items)
    c.loop.rest.now c.loop.invariant.cut
    (length-map c.loop.shards.items (λ shard. shard.items)
    ∙ omega (arith, c.loop.invariant.number, c.loop-test.false, c.loop.auto))
    c.in-Some.ensures
