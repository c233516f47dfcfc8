use Rattle.rs_volumes.proofs.Created.{created_whole, of_value}
use Rattle.rs_volumes.proofs.creating.create.Goals as goal

pub returns-clause-created : goal.returns-clause-created
returns-clause-created g c =
    of_value c.create_except.result (λ digests is. created_whole is) c.create_except.ensures.created
