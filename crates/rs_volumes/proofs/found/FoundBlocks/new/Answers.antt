use Rattle.std.proofs.Common.{rules, ◌≡◌, None, replicate, subst}
use Rattle.rs_volumes.specs.Found.{IsFound}
use Rattle.rs_volumes.proofs.Founds.{none_found}
use Rattle.rs_volumes.proofs.found.FoundBlocks.new.Goals as goal

pub invariant_of-result : goal.invariant_of-result
invariant_of-result g c =
    let none : c.in_ok-places.places.items ≡ replicate c.args.count None = search rules in
    record {
      right = λ i found.
          absurd (none_found _ c.args.count i (subst (λ ps. IsFound ps i) none found));
    }
