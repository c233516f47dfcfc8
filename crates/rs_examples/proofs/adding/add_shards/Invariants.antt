use Rattle.reed_solomon_simd.specs.Encoder.{with_shard}
use Rattle.reed_solomon_simd.proofs.Giving.{LeadsOn}
use Rattle.rs_examples.proofs.adding.add_shards.Given as goal

abbrev pub invariant-loop-shard : goal.invariant-loop-shard
invariant-loop-shard g l =
    LeadsOn g.I.Iterator.next_gives (λ shard. shard.now) with_shard l.fn.shards
    (g.X.RateEncoder.state l.initial.encoder) l.shard-iterator (g.X.RateEncoder.state l.encoder)
