use Rattle.std.proofs.Common.{◌≡◌}
use Rattle.rs_field.specs.code.Encoder.{with_shard}
use Rattle.rs_rate.proofs.objects_lemmas.Giving.{LeadsOn}
use Rattle.reed_solomon_simd.specs.LentState.{lent_state}
use Rattle.reed_solomon_simd.proofs.lent_originals.LentOriginals.add_all.Given as goal

abbrev pub invariant-loop-shard : goal.invariant-loop-shard
invariant-loop-shard g l =
    record {
      led : LeadsOn g.I.Iterator.next_gives (λ shard. shard.now) with_shard l.fn.originals
          (lent_state l.initial.self) l.shard-iterator (lent_state l.self);
      counts : l.self.counts ≡ l.initial.self.counts;
      size : l.self.shard_bytes ≡ l.initial.self.shard_bytes;
    }
