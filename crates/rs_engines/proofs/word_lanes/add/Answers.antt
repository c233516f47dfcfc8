use Rattle.std.proofs.Common.{refl}
use Rattle.rs_engines.proofs.WordBytes.{sum_word}
use Rattle.rs_engines.proofs.word_lanes.add.Goals as goal

pub returns : goal.returns
returns g c i h =
    sum_word _ _ _ _ _ _ _ _ (c.sum.ensures.lanes i h) (c.sum-2.ensures.lanes i h)
    (c.sum.ensures.small i h).0 (c.sum.ensures.small i h).1 refl refl
