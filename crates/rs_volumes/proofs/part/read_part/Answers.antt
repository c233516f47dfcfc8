use Rattle.std.proofs.Common.{ap, subst, ◌∙◌, arith}
use Rattle.rs_volumes.specs.Reading.{Reads}
use Rattle.rs_volumes.specs.Parts.{part, part_in}
use Rattle.rs_volumes.proofs.PartLemmas.{part_found, part_again}
use Rattle.rs_volumes.proofs.part.read_part.Goals as goal

pub returns-clause-found : goal.returns-clause-found
returns-clause-found c =
    part_found (λ x. part x.0 x.1.now) c.args.index c.args.body.now c.part_from.result
    (λ i. omega (arith, c.type_inv.body i)) c.part_from.ensures

pub returns-clause-only : goal.returns-clause-only
returns-clause-only c = λ p fits e.
    subst (λ f. Reads (λ x. part x.0 x.1.now) c.part_from.result f)
    (ap (part_in c.args.index) e ∙ part_again c.args.index p fits) c.part_from.ensures
