use Rattle.std.proofs.Common.{◌+◌, sym, ap, ◌∙◌, arith}
use Rattle.reed_solomon_simd.proofs.ReceivedLemmas.{places-entered, places-counted, places-most}
use Rattle.reed_solomon_simd.proofs.received_shards.ShardsByIndex.enter.Goals as goal

pub overflow_add-self : goal.overflow_add-self
overflow_add-self c =
    let most = places-most c.args.self.now.shards.items c.args.index c.args.shard c.requires.inside c.requires.free in
    omega (arith, most, c.args.self.now.counted, c.args.self.now.shards.ok, c.args.self.now.shards.small)

pub invariant_of-self : goal.invariant_of-self
invariant_of-self c =
    record {
      counted = ap (λ n. n + 1) c.args.self.now.counted
          ∙ sym (places-counted c.args.self.now.shards.items c.args.index c.args.shard c.requires.inside
          c.requires.free);
    }

pub returns-clause-entered : goal.returns-clause-entered
returns-clause-entered c = places-entered c.args.self.now.shards.items c.args.index c.args.shard c.requires.inside
