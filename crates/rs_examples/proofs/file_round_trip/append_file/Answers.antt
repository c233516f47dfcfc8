use Rattle.std.proofs.Common.{rules, ◌<◌, length, arith}
use Rattle.std.proofs.lemmas.Grind.{common_steps}
use Rattle.std.proofs.lemmas.List.{append-nil}
use Rattle.rs_volumes.proofs.LaidLemmas.{data-empty}
use Rattle.rs_examples.proofs.FilesBack.{file-appended}
use Rattle.rs_examples.proofs.file_round_trip.append_file.Goals as goal

pub returns-then-is_empty-clause-laid : goal.returns-then-is_empty-clause-laid
returns-then-is_empty-clause-laid c = search (rules, append-nil, data-empty)

pub returns-clause-laid : goal.returns-clause-laid
returns-clause-laid c =
    let full : 0 < length c.args.file.now = grind (arith, common_steps) in
    file-appended c.args.unit c.round_up.result c.args.row.now.len c.args.row.now.items c.resize.new.self.items
    c.extend_from_slice.new.self.items c.args.file.now c.requires.some full (search rules) (search rules)
    c.in_ok-resize.ensures.items c.in_ok-extend_from_slice.ensures.items
