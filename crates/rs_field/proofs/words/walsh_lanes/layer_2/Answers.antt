use Rattle.std.proofs.Common.{refl}
use Rattle.rs_field.proofs.words_lemmas.Linear.{passes_below}
use Rattle.rs_field.proofs.words_lemmas.WalshLanes.{layer_of}
use Rattle.rs_field.proofs.words.walsh_lanes.layer_2.Goals as goal

pub returns : goal.returns
unfolding passes_below
returns c = layer_of 2 c.args.v c.add_mod_lanes.result c.fits-v.0 c.fits-v.1 refl c.add_mod_lanes.ensures
