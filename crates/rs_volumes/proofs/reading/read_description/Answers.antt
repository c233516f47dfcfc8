use Rattle.std.proofs.Common.{ap, subst, ◌∙◌, arith}
use Rattle.rs_volumes.specs.Description.{set_of}
use Rattle.rs_volumes.specs.Reading.{Gives}
use Rattle.rs_volumes.specs.Sound.{reading}
use Rattle.rs_volumes.proofs.Sets.{is_found, reading_again}
use Rattle.rs_volumes.proofs.Counted.{is_counted}
use Rattle.rs_volumes.proofs.reading.read_description.Goals as goal

pub returns-clause-found : goal.returns-clause-found
returns-clause-found c =
    is_found c.args.bytes.now c.checked_of.result (λ i. omega (arith, c.type_inv.bytes i)) c.checked_of.ensures

pub returns-clause-only : goal.returns-clause-only
returns-clause-only c = λ s sound e.
    subst (λ f. Gives set_of c.checked_of.result f) (ap reading e ∙ reading_again s sound) c.checked_of.ensures

pub returns-clause-counted : goal.returns-clause-counted
returns-clause-counted c =
    is_counted c.checked_of.result c.args.bytes.now
    (is_found c.args.bytes.now c.checked_of.result (λ i. omega (arith, c.type_inv.bytes i)) c.checked_of.ensures)
