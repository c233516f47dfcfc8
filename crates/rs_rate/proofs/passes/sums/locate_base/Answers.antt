use Rattle.std.proofs.Common.{rules, ◌≡◌, List, ℕ, length, take, drop, ◌++◌, sym, subst, ◌∙◌}
use Rattle.rs_rate.specs.passes.Sums.{MakeFactors}
use Rattle.rs_rate.proofs.passes_lemmas.SumLemmas.{factors_made, written-back}
use Rattle.rs_rate.proofs.passes.sums.locate_base.Goals as goal

pub invariant_of-result : goal.invariant_of-result
invariant_of-result g c =
    let locator : take c.in_ok-locator.locator.len (c.make_locator.new.entries
    ++ drop (length c.make_locator.new.entries) c.in_ok-locator.locator.items) ≡ c.make_locator.new.entries =
    search (rules, written-back) in
    let logs : take c.in_ok-logs.logs.len (c.set_logarithms.new.logs
    ++ drop (length c.set_logarithms.new.logs) c.in_ok-logs.logs.items) ≡ c.set_logarithms.new.logs =
    search (rules, written-back) in
    let long : length c.set_logarithms.new.logs ≡ c.row_count-2.result = search rules in
    let made = factors_made c.set_logarithms.new.logs c.make_locator.ensures.locator
    (long ∙ c.row_count-2.ensures) (λ z some inside. c.set_logarithms.ensures z some (search rules)) in
    record {
      made = subst (λ (l : List ℕ). MakeFactors l (take c.in_ok-logs.logs.len (c.set_logarithms.new.logs
          ++ drop (length c.set_logarithms.new.logs) c.in_ok-logs.logs.items))) (sym locator)
          (subst (λ (l : List ℕ). MakeFactors c.make_locator.new.entries l) (sym logs) made);
    }
