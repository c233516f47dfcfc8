use Rattle.std.proofs.Common.{rules, ◌≡◌, subst, sym}
use Rattle.rs_volumes.specs.Computed.{IsComputed, digest_at}
use Rattle.rs_volumes.proofs.Founds.{right_set}
use Rattle.rs_volumes.proofs.found.FoundBlocks.note.Goals as goal

pub invariant_of-self : goal.invariant_of-self
invariant_of-self g c =
    let own : digest_at c.args.self.now.digests.items c.args.index ≡ c.args.own.now.bytes = search rules in
    record {
      right = right_set c.args.self.now.digests.items c.args.self.now.places.items c.args.index c.args.place
          c.args.self.now.right (subst IsComputed (sym own) c.args.own.now.computed);
    }
