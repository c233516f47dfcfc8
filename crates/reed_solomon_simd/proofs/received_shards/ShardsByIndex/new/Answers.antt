use Rattle.std.proofs.Common.{rules}
use Rattle.reed_solomon_simd.proofs.ReceivedLemmas.{places-none, places-empty}
use Rattle.reed_solomon_simd.proofs.received_shards.ShardsByIndex.new.Goals as goal

pub invariant_of-result : goal.invariant_of-result
invariant_of-result c = search (rules, places-none, places-empty)
