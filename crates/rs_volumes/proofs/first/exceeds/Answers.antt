use Rattle.std.proofs.Common.{rules, sym, ◌∙◌}
use Rattle.rs_volumes.proofs.FirstLemmas.{exceeds_at, exceeds_not, exceeds_past}
use Rattle.rs_volumes.proofs.first.exceeds.Goals as goal

pub returns-then-block_bytes-round_up : goal.returns-then-block_bytes-round_up
returns-then-block_bytes-round_up c = search (rules, exceeds_not)

pub loop-file-preserved : goal.loop-file-preserved
loop-file-preserved c = search (rules, exceeds_at)

pub returns : goal.returns
returns c = sym (c.loop-file.invariant
    ∙ exceeds_past c.args.files.now c.loop-file.file-index c.args.block_bytes c.loop-file-test.false)
