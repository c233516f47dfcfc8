use Rattle.std.proofs.Common.{rules, ◌≡◌, [], Ok}
use Rattle.rs_volumes.specs.Description.{entries_of}
use Rattle.rs_volumes.specs.Sound.{entries_outcome}
use Rattle.rs_volumes.proofs.OrderLemmas.{apart_after}
use Rattle.rs_volumes.proofs.checking.check.Goals as goal

pub returns-clause-apart : goal.returns-clause-apart
returns-clause-apart c =
    let ok : entries_outcome [] (entries_of c.args.description.now.entries.items) ≡ Ok tt = search rules in
    apart_after (entries_of c.args.description.now.entries.items) c.check_data.result ok
