use Rattle.std.proofs.Common.{rules, ◌≡◌, ◌+◌, ◌++◌, [], ◌∷◌, sym, subst, ◌∙◌}
use Rattle.rs_examples.specs.Losing.{ListsLost}
use Rattle.rs_examples.proofs.LostIndexes.{lists-none, lists-lost, lists-left}
use Rattle.rs_examples.proofs.reconstruct_round_trip.lost_indexes.Goals.{then-contains+in_ok-push, else-contains}
use Rattle.rs_examples.proofs.reconstruct_round_trip.lost_indexes.Goals as goal

pub loop-index-init : goal.loop-index-init
loop-index-init c =
    subst (ListsLost 0 c.args.lost.now) (let none : [] ≡ c.new-indexes.result.items = search rules in none)
    (lists-none c.args.lost.now)

pub loop-index-preserved : goal.loop-index-preserved
loop-index-preserved c =
    elim c.if-contains.branch [
      | then-contains+in_ok-push w ↦
          let more : c.if-contains.indexes.items ≡ c.loop-index.indexes.items ++ c.loop-index.index-counter ∷ [] =
          search rules in
          subst (ListsLost (c.loop-index.index-counter + 1) c.args.lost.now) (sym more)
          (lists-lost c.loop-index.invariant
          (sym c.contains.ensures.value ∙ w.if-contains.true))
      | else-contains w ↦
          subst (λ v. ListsLost (c.loop-index.index-counter + 1) c.args.lost.now v.items) (sym w.indexes-is)
          (lists-left c.loop-index.invariant
          (sym c.contains.ensures.value ∙ w.if-contains.false))
    ]
