use Rattle.std.proofs.Common.{◌++◌}
use mathlib.Core.Logic.{∥∥₁_map}
use Rattle.rs_volumes.proofs.hasher.ByteHasher.update.Goals as goal

pub invariant_of-self : goal.invariant_of-self
invariant_of-self c =
    record {
      taken = ∥∥₁_map c.args.self.now.taken (λ held. (held.0 ++ c.args.bytes.now, c.update.ensures held.0 held.1));
    }
