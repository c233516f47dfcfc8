use Rattle.std.proofs.Common.{ℕ}
use Rattle.rs_field.specs.code.Column.{Shard}
use Rattle.rs_field.specs.code.Decoder.{with_recovery}
use Rattle.rs_rate.proofs.objects_lemmas.Giving.{LeadsOn}
use Rattle.reed_solomon_simd.specs.ReceivedState.{received_state}
use Rattle.reed_solomon_simd.proofs.receiving.add_recovery.Given as goal

abbrev pub invariant-loop-index : goal.invariant-loop-index
invariant-loop-index g l =
    LeadsOn {T = ℕ × Shard} g.I.Iterator.next_gives (λ item. (item.0, item.1.now))
    (λ now item. with_recovery now item.0 item.1)
    l.fn.recovery (received_state l.initial.received) l.index-iterator (received_state l.received)
