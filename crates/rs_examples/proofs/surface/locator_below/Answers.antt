use Rattle.std.proofs.Common.{refl, arith}
use Rattle.rs_examples.proofs.surface.locator_below.Goals as goal

pub get_log_walsh_below-requires-clause-power : goal.get_log_walsh_below-requires-clause-power
get_log_walsh_below-requires-clause-power c = (6, refl)

pub locate-requires-clause-power : goal.locate-requires-clause-power
locate-requires-clause-power c = (6, omega arith)
