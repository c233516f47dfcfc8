use Rattle.std.proofs.Common.{refl}
use Rattle.rs_tests.proofs.locators.check_first_points.Goals as goal

pub locate-requires-clause-power : goal.locate-requires-clause-power
locate-requires-clause-power g c = (2, refl)

pub locate-requires-2-clause-power : goal.locate-requires-2-clause-power
locate-requires-2-clause-power g c = (2, refl)
