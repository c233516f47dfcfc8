use Rattle.std.proofs.Common.{ℕ, ◌+◌, ◌-◌, ◌%◌, cond, List, map, ◌∙◌, arith}
use Rattle.std.proofs.Math.Dec.{ltb}
use Rattle.std.proofs.lemmas.Simd.{get_or-zip2}
use lib.Lanes.{zip2, sel_l, top}
use Rattle.rs_field.proofs.words_lemmas.WalshLanes.{larger_lane, length-larger, lane_below}
use Rattle.rs_field.proofs.words.walsh_lanes.excess.Goals as goal

pub returns : goal.returns
returns c i h =
    let larger : List ℕ =
    sel_l (map (top 15) (zip2 (λ a b. cond (ltb a b) 65535 0) c.args.x c.args.y)) c.args.y c.args.x in
    let long = length-larger c.args.x c.args.y c.fits-x.0 c.fits-y.0 in
    let x_small = lane_below c.args.x i c.fits-x.1 in
    let y_small = lane_below c.args.y i c.fits-y.1 in
    let is = larger_lane c.args.x c.args.y i c.fits-x.0 c.fits-y.0 h in
    get_or-zip2 (λ (a b : ℕ). (a + (65536 - b)) % 65536) larger c.args.y i 0 0 0 (omega arith)
    (omega (arith, c.fits-y.0)) ∙ omega arith
