use Rattle.rs_field.proofs.words_lemmas.WalshLanes.{four_layers}
use Rattle.rs_field.proofs.words.walsh_lanes.walsh_16.Goals as goal

pub returns : goal.returns
returns c =
    four_layers c.args.v c.layer_1.result c.layer_2.result c.layer_4.result c.layer_8.result
    c.layer_1.ensures c.layer_2.ensures c.layer_4.ensures c.layer_8.ensures
