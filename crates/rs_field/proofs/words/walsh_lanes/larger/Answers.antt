use Rattle.rs_field.proofs.words_lemmas.WalshLanes.{larger_lane}
use Rattle.rs_field.proofs.words.walsh_lanes.larger.Goals as goal

pub returns : goal.returns
returns c i h = larger_lane c.args.x c.args.y i c.fits-x.0 c.fits-y.0 h
