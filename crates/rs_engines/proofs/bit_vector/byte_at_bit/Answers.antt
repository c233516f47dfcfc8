use Rattle.rs_engines.proofs.ByBits.{byte_if_bit}
use Rattle.rs_engines.proofs.bit_vector.byte_at_bit.Goals as goal

pub returns : goal.returns
returns c k i e h = byte_if_bit c.args.v c.args.bit c.args.byte k i c.fits-v.0 e h
