use Rattle.rs_examples.specs.Losing.{items_lent}
use Rattle.rs_examples.proofs.VerifyLaws.{codeword_passes, changes_found}
use Rattle.rs_examples.proofs.round_trip.verify_what_is_left.Goals as goal

pub returns-clause-passes : goal.returns-clause-passes
returns-clause-passes c originals recovery coded kept received =
    codeword_passes coded kept received c.verify.ensures

pub returns-clause-notices : goal.returns-clause-notices
returns-clause-notices c s message all received are coded some few =
    changes_found c.args.recovery_count (items_lent c.args.kept.now) (items_lent c.args.received.now) received are coded
    some few c.verify.ensures
