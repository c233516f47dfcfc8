use Rattle.std.proofs.Common.{ℕ}
use Rattle.rs_field.specs.code.Column.{Shard}
use Rattle.rs_field.specs.code.Decoder.{with_original}
use Rattle.rs_rate.proofs.objects_lemmas.Giving.{LeadsOn}
use Rattle.reed_solomon_simd.specs.ReceivedState.{received_state}
use Rattle.reed_solomon_simd.proofs.receiving.add_originals.Given as goal

abbrev pub invariant-loop-index : goal.invariant-loop-index
invariant-loop-index g l =
    LeadsOn {T = ℕ × Shard} g.I.Iterator.next_gives (λ item. (item.0, item.1.now))
    (λ now item. with_original now item.0 item.1)
    l.fn.originals (received_state l.initial.received) l.index-iterator (received_state l.received)
