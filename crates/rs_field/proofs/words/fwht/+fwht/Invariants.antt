use Rattle.std.proofs.Common.{length}
use Rattle.rs_field.proofs.words.fwht.+fwht.Given as goal

abbrev pub decreases-fwht : goal.decreases-fwht
decreases-fwht l = length l.entries.now
