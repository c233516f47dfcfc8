use Rattle.std.proofs.Common.{rules, sym, ◌∙◌}
use Rattle.rs_volumes.proofs.FirstLemmas.{fills_at, overfills_at, fills_past}
use Rattle.rs_volumes.proofs.first.fills.Goals as goal

pub returns-then-blocks-left : goal.returns-then-blocks-left
returns-then-blocks-left c = search (rules, overfills_at)

pub loop-file-preserved : goal.loop-file-preserved
loop-file-preserved c = search (rules, fills_at)

pub returns : goal.returns
returns c = sym (c.loop-file.invariant.same
    ∙ fills_past c.args.files.now c.loop-file.file-index c.args.block_bytes c.loop-file.left c.loop-file-test.false)
