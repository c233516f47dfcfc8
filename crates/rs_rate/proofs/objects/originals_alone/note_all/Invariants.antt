use Rattle.std.proofs.Common.{◌≡◌, ℕ, List, length}
use Rattle.rs_field.specs.code.Column.{Shard}
use Rattle.rs_field.specs.code.OneCall.{note_outcome}
use Rattle.rs_rate.specs.objects.Giving.{AreNoted}
use Rattle.rs_rate.proofs.objects_lemmas.Giving.{LeadsOn}
use Rattle.rs_rate.proofs.objects.originals_alone.note_all.Given as goal

abbrev pub invariant-loop-index : goal.invariant-loop-index
invariant-loop-index g l =
    (length l.given ≡ length l.fn.given)
    × ((first : List ℕ) → AreNoted first l.fn.given
    → (now : List ℕ) × AreNoted now l.given
    × LeadsOn {T = ℕ × Shard} g.I.Iterator.next_gives (λ item. (item.0, item.1.now))
    (λ so_far item. note_outcome (length l.fn.given) so_far item.0)
    l.fn.originals first l.index-iterator now)
