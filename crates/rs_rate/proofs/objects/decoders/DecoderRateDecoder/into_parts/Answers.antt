use Rattle.rs_rate.specs.objects.ObjectLaws.{has_own_decoder_room}
use Rattle.rs_rate.proofs.objects.decoders.DecoderRateDecoder.into_parts.Goals as goal

pub returns-clause-enough : goal.returns-clause-enough
returns-clause-enough g c = has_own_decoder_room g.C.RateMarker.rate c.args.self.rows c.args.self.set_up
