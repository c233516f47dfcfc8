use Rattle.std.proofs.Common.{ap, subst, ◌∙◌, arith}
use Rattle.rs_volumes.specs.Records.{head_of, head_in}
use Rattle.rs_volumes.specs.Reading.{Reads}
use Rattle.rs_volumes.proofs.RecordLemmas.{head_found, head_again}
use Rattle.rs_volumes.proofs.record.read_record_head.Goals as goal

pub returns-clause-found : goal.returns-clause-found
returns-clause-found c = head_found c.args.bytes.now c.head_from.result (λ i. omega (arith, c.fits-bytes i))
    c.head_from.ensures

pub returns-clause-only : goal.returns-clause-only
returns-clause-only c = λ h fits e.
    subst (λ f. Reads head_of c.head_from.result f) (ap head_in e ∙ head_again h fits) c.head_from.ensures
