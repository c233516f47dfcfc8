use mathlib.Core.Logic.{∥∥₁_map}
use Rattle.rs_volumes.proofs.hasher.ByteHasher.finish.Goals as goal

pub invariant_of-result : goal.invariant_of-result
invariant_of-result c =
    record { computed = ∥∥₁_map c.args.self.taken (λ held. (held.0, c.finalize.ensures held.0 held.1)) }
