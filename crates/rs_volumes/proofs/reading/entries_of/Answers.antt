use Rattle.std.proofs.Common.{◌≡◌, ◌++◌, ◌∷◌, []}
use Rattle.std.proofs.lemmas.Result.{err_from_is_err_and}
use Rattle.std.proofs.lemmas.List.{map_push}
use Rattle.rs_volumes.specs.Description.{entry_of, entries_of}
use Rattle.rs_volumes.specs.Reading.{entry_at}
use Rattle.rs_volumes.proofs.Loops.{goes_on, ends, is_done}
use Rattle.rs_volumes.proofs.reading.entries_of.Goals as goal

pub returns-in_err-entry : goal.returns-in_err-entry
returns-in_err-entry c =
    let p = err_from_is_err_and c.from_residual.result c.from_residual.ensures.1 in
    rw (p.1, p.2)
    (ends entry_at (entries_of c.loop.entries.items) c.args.count c.loop.counter c.loop.rest.now c.loop.invariant
    c.in_err-entry.field-0.0 c.loop-test.true c.in_err-entry.ensures)

pub loop-preserved : goal.loop-preserved
loop-preserved c =
    let f = c.in_ok-entry.entry in
    let e : entries_of c.push.new.self.items ≡ entries_of c.loop.entries.items ++ entry_of f ∷ [] =
    rw c.in_ok-push.ensures.items (map_push _ c.loop.entries.items f) in
    rw e (goes_on entry_at (entries_of c.loop.entries.items) c.args.count c.loop.counter c.loop.rest.now
    c.loop.invariant c.loop-test.true c.in_ok-entry.ensures)

pub returns : goal.returns
returns c =
    is_done entry_at (entries_of c.loop.entries.items) c.args.count c.loop.counter c.loop.rest.now
    c.loop.invariant c.loop-test.false
