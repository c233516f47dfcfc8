use Rattle.std.proofs.Common.{ℕ}
use Rattle.reed_solomon_simd.specs.Column.{Shard}
use Rattle.reed_solomon_simd.specs.Decoder.{with_recovery}
use Rattle.reed_solomon_simd.proofs.Giving.{LeadsOn}
use Rattle.rs_examples.proofs.adding.add_recovery.Given as goal

abbrev pub invariant-loop-index : goal.invariant-loop-index
invariant-loop-index g l =
    LeadsOn {T = ℕ × Shard} g.I.Iterator.next_gives (λ item. (item.0, item.1.now))
    (λ now item. with_recovery now item.0 item.1)
    l.fn.recovery (g.X.RateDecoder.state l.initial.decoder) l.index-iterator (g.X.RateDecoder.state l.decoder)
