use Rattle.std.proofs.Common.{rules, ◌≡◌, subst, sym}
use Rattle.rs_volumes.specs.Computed.{IsComputed, digest_at}
use Rattle.rs_volumes.specs.Found.{IsFound}
use Rattle.rs_volumes.proofs.Founds.{right_set}
use Rattle.rs_volumes.proofs.found.FoundBlocks.note_equal.Goals as goal

pub invariant_of-self : goal.invariant_of-self
invariant_of-self g c =
    let same : digest_at c.args.self.now.digests.items c.args.index
    ≡ digest_at c.args.self.now.digests.items c.args.other = search rules in
    let found : IsFound c.args.self.now.places.items c.args.other = search rules in
    record {
      right = right_set c.args.self.now.digests.items c.args.self.now.places.items c.args.index c.args.place
          c.args.self.now.right (subst IsComputed (sym same) (c.args.self.now.right c.args.other found));
    }
