use Rattle.std.proofs.Common.{rules, inl}
use Rattle.std.proofs.lemmas.Iterator.{YieldsList-from_slice, YieldsList-from_map_by}
use Rattle.std.proofs.lemmas.Result.{err_from_is_err_and}
use Rattle.rs.specs.Reading.{given_items}
use Rattle.rs.proofs.PrintedLemmas.{restores-lines}
use Rattle.rs.proofs.coding.restored_lines.Goals as goal

pub returns-in_err-restored : goal.returns-in_err-restored
returns-in_err-restored c =
    let original = YieldsList-from_map_by _ (λ item. (item.0, item.1.now)) (λ item. (item.0, item.1.items))
    (YieldsList-from_slice c.args.given.now.original.items cc) c.map-original.ensures.closure
    (λ x r q k. search rules) in
    let recovery = YieldsList-from_map_by _ (λ item. (item.0, item.1.now)) (λ item. (item.0, item.1.items))
    (YieldsList-from_slice c.args.given.now.recovery.items cc) c.map-recovery.ensures.closure
    (λ x r q k. search rules) in
    let given = given_items c.args.given.now in
    let exit = err_from_is_err_and c.from_residual.result c.from_residual.ensures.1 in
    rw (exit.1, exit.2) (inl
    (c.in_err-restored.ensures.answer given.originals given.recovery original.runs recovery.runs))

pub returns : goal.returns
returns c =
    let original = YieldsList-from_map_by _ (λ item. (item.0, item.1.now)) (λ item. (item.0, item.1.items))
    (YieldsList-from_slice c.args.given.now.original.items cc) c.map-original.ensures.closure
    (λ x r q k. search rules) in
    let recovery = YieldsList-from_map_by _ (λ item. (item.0, item.1.now)) (λ item. (item.0, item.1.items))
    (YieldsList-from_slice c.args.given.now.recovery.items cc) c.map-recovery.ensures.closure
    (λ x r q k. search rules) in
    let given = given_items c.args.given.now in
    restores-lines c.args.counts.original c.args.counts.recovery given _ _
    (c.in_ok-restored.ensures.answer given.originals given.recovery original.runs recovery.runs)
    c.indexed_lines.ensures
