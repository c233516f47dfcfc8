use Rattle.std.proofs.Common.{rules, sym, ◌∙◌}
use Rattle.rs_examples.proofs.FilesBack.{block-further, blocks-all}
use Rattle.rs_examples.proofs.file_round_trip.cut.Goals as goal

pub loop-init : goal.loop-init
loop-init c = search rules

pub loop-preserved : goal.loop-preserved
loop-preserved c =
    c.loop.invariant
    ∙ block-further c.args.size c.args.count c.loop.counter c.loop.rest.now c.loop.blocks.items c.in_ok-filled.field-0
    c.loop-test.true (search rules)
    ∙ search rules

pub returns : goal.returns
returns c =
    sym (c.loop.invariant ∙ blocks-all c.args.size c.args.count c.loop.counter c.loop.rest.now _ c.loop-test.false)
