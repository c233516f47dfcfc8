use Rattle.std.proofs.Common.{refl}
use Rattle.rs_tests.proofs.examples.a_locator_of_one_point_is_made_of_logarithms.Goals as goal

pub get_log_walsh_below-log_walsh-requires-clause-power : goal.get_log_walsh_below-log_walsh-requires-clause-power
get_log_walsh_below-log_walsh-requires-clause-power g c = (2, refl)

pub locate-requires-clause-power : goal.locate-requires-clause-power
locate-requires-clause-power g c = (2, refl)
