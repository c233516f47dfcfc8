use Rattle.std.proofs.Common.{rules, ◌≡◌}
use Rattle.reed_solomon_simd.proofs.Collecting.{shards_in-inserted}
use Rattle.reed_solomon_simd.proofs.completing.enter.Goals as goal

pub returns-clause-entered : goal.returns-clause-entered
returns-clause-entered c =
    let same : c.in_ok-to_vec.field-0.items ≡ c.args.shard.now = search rules in
    shards_in-inserted c.args.originals.now c.insert.new.self c.args.index c.in_ok-to_vec.field-0 c.args.shard.now
    same c.in_ok-insert.ensures.updates
