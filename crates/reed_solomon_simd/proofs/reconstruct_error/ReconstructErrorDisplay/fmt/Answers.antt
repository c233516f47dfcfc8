use Rattle.std.proofs.Common.{append_assoc}
use Rattle.reed_solomon_simd.proofs.reconstruct_error.ReconstructErrorDisplay.fmt.Goals as goal

pub returns-in-WrongLength-clause-writes : goal.returns-in-WrongLength-clause-writes
returns-in-WrongLength-clause-writes g c =
    rw c.in-WrongLength.is (simp append_assoc c.write-in-WrongLength.ensures.writes)
