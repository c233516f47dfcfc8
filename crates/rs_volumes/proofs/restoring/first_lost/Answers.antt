use Rattle.std.proofs.Common.{rules, ℕ, ◌+◌, List, All, get_or, take, subst, sym}
use Rattle.std.proofs.lemmas.List.{take_all, take_more}
use Rattle.std.proofs.lemmas.List.Elements.{All-push}
use Rattle.rs_volumes.specs.Found.{IsFound}
use Rattle.rs_volumes.proofs.restoring.first_lost.Goals as goal

pub loop-number-preserved : goal.loop-number-preserved
loop-number-preserved g c =
    let n : ℕ = c.loop-number.number-index in
    let numbers : List ℕ = c.args.numbers.now in
    let here : IsFound c.args.found.now.places.items (c.args.first + get_or numbers n 0) = search rules in
    subst (λ (xs : List ℕ). All (λ m. IsFound c.args.found.now.places.items (c.args.first + m)) xs)
    (sym (take_more numbers n 0 c.loop-number-test.true))
    (All-push (λ m. IsFound c.args.found.now.places.items (c.args.first + m)) (take n numbers) (get_or numbers n 0)
    c.loop-number.invariant here)

pub returns-clause-all : goal.returns-clause-all
returns-clause-all g c =
    subst (λ (xs : List ℕ). All (λ m. IsFound c.args.found.now.places.items (c.args.first + m)) xs)
    (take_all c.loop-number.number-index c.args.numbers.now c.loop-number-test.false) c.loop-number.invariant
