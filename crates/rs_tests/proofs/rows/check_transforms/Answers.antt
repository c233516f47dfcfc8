use Rattle.std.proofs.Common.{refl}
use Rattle.rs_tests.proofs.rows.check_transforms.Goals as goal

pub fft-requires-clause-power : goal.fft-requires-clause-power
fft-requires-clause-power g c = (2, refl)

pub ifft-requires-clause-power : goal.ifft-requires-clause-power
ifft-requires-clause-power g c = (1, refl)
