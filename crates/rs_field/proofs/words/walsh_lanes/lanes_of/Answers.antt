use Rattle.std.proofs.Common.{get_or, ap, ◌∙◌, arith}
use Rattle.std.proofs.lemmas.Simd.{get_or-chunk}
use Rattle.rs_field.proofs.words.walsh_lanes.lanes_of.Goals as goal

pub returns : goal.returns
returns c i h =
    get_or-chunk 0 16 c.args.entries.now i 0 h ∙ ap (λ k. get_or c.args.entries.now k 0) (omega arith)
