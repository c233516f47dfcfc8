use Rattle.std.proofs.Common.{rules, ◌≡◌, ℕ, ◌+◌, ◌++◌, [], ◌∷◌, false, true, sym, subst, ◌∙◌, arith}
use Rattle.std.proofs.lemmas.Grind.{common_steps}
use Rattle.rs_examples.specs.Blocks.{ListsLeft}
use Rattle.rs_examples.proofs.BlocksBack.{left-none, left-kept, left-gone}
use Rattle.rs_examples.proofs.block_round_trip.left_numbers.Goals.{then-not-contains+in_ok-push, else-not-contains}
use Rattle.rs_examples.proofs.block_round_trip.left_numbers.Goals as goal

pub loop-number-init : goal.loop-number-init
loop-number-init c =
    subst (ListsLeft c.args.first 0 c.args.lost.now) (let none : [] ≡ c.new-numbers.result.items = search rules in none)
    (left-none c.args.first c.args.lost.now)

pub loop-number-preserved : goal.loop-number-preserved
loop-number-preserved c =
    let n : ℕ = c.loop-number.number in
    elim c.if-not-contains.branch [
      | then-not-contains+in_ok-push w ↦
          let more : c.if-not-contains.numbers.items ≡ c.loop-number.numbers.items ++ n ∷ [] = search rules in
          let kept : c.contains.result ≡ false = grind (arith, common_steps) in
          subst (ListsLeft c.args.first (n + 1) c.args.lost.now) (sym more)
          (left-kept c.loop-number.invariant (sym c.contains.ensures.value ∙ kept))
      | else-not-contains w ↦
          let gone : c.contains.result ≡ true = grind (arith, common_steps) in
          subst (λ v. ListsLeft c.args.first (n + 1) c.args.lost.now v.items) (sym w.numbers-is)
          (left-gone c.loop-number.invariant (sym c.contains.ensures.value ∙ gone))
    ]
