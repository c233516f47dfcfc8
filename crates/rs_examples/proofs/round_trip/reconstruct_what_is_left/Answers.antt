use Rattle.rs_examples.proofs.ReconstructLaws.{restored_only, refused_only}
use Rattle.rs_examples.proofs.round_trip.reconstruct_what_is_left.Goals as goal

pub returns-clause-restored : goal.returns-clause-restored
returns-clause-restored c originals recovery coded kept received =
    restored_only c.args.wanted.now coded kept received c.reconstruct.result c.reconstruct.ensures

pub returns-clause-enough : goal.returns-clause-enough
returns-clause-enough c originals recovery s coded kept received taken lost many =
    refused_only c.args.wanted.now coded kept received c.reconstruct.result s taken lost many c.reconstruct.ensures
