use Rattle.std.proofs.Common.{arith}
use Rattle.rs_engines.proofs.shuffle_changes.change_all.Goals as goal

pub loop-at-smaller : goal.loop-at-smaller
loop-at-smaller g c = omega (arith, c.change_next-at.ensures.next, c.change_next-at.ensures.inside)
