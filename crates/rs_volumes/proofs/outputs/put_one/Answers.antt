use Rattle.std.proofs.Common.{◌≡◌, ◌∙◌, length, get_or, arith}
use Rattle.std.proofs.lemmas.Grind.{common_steps}
use Rattle.rs_volumes.proofs.Restored.{held_more}
use Rattle.rs_volumes.proofs.outputs.put_one.Goals as goal

pub returns-in-Ok-clause-held : goal.returns-in-Ok-clause-held
returns-in-Ok-clause-held g c held before are =
    let start : c.index-start.result.now ≡ get_or c.args.outputs.now.lengths.items c.args.index 0 =
    grind (arith, common_steps) in
    held_more c.args.piece.now c.requires.lengths (grind (arith, common_steps)) c.absorb_one.ensures.number
    (grind (arith, common_steps)) (λ i other. grind (arith, common_steps)) c.absorb_one.ensures.here
    c.absorb_one.ensures.others
    (λ bytes is (long : get_or c.args.outputs.now.lengths.items c.args.index 0 ≡ length bytes).
    c.in-Ok.ensures.here bytes is (start ∙ long))
    c.in-Ok.ensures.others are
