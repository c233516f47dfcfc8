use Rattle.std.proofs.Common.{rules, ◌∙◌}
use Rattle.std.proofs.lemmas.List.{append-nil, drop_all}
use Rattle.rs_volumes.proofs.LaidLemmas.{data-nil}
use Rattle.rs_examples.proofs.FilesBack.{lay-further}
use Rattle.rs_examples.proofs.file_round_trip.lay.Goals as goal

pub loop-file-init : goal.loop-file-init
loop-file-init c = search rules

pub loop-file-preserved : goal.loop-file-preserved
loop-file-preserved c =
    c.loop-file.invariant
    ∙ lay-further c.args.unit c.args.files.now c.loop-file.file-index c.file-item.result c.loop-file.row.items
    c.append_file.new.row.items c.requires.some c.loop-file-test.true c.file-item.is
    (rw c.as_slice.ensures.value at c.in_ok-append_file.ensures.laid)

pub returns-clause-laid : goal.returns-clause-laid
returns-clause-laid c = search (rules, append-nil, data-nil, drop_all)
