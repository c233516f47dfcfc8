use Rattle.std.proofs.Common.{rules, sym, ◌∙◌, ◌≡◌, Err}
use Rattle.std.proofs.lemmas.Result.{err_from_is_err_and}
use Rattle.rs_volumes.specs.Description.{entry_of}
use Rattle.rs_volumes.specs.Sound.{entry_outcome}
use Rattle.rs_volumes.proofs.CheckLemmas.{entry_fault, order_fault, inside_fault, passes_at, passes_past}
use Rattle.rs_volumes.proofs.checking.check_entries.Goals as goal

pub returns-in_err-check_entry : goal.returns-in_err-check_entry
returns-in_err-check_entry c =
    let p = err_from_is_err_and c.from_residual.result c.from_residual.ensures.1 in
    let bad : entry_outcome (entry_of c.entry-item.result) ≡ Err c.in_err-check_entry.field-0.0 =
    sym c.check_entry.ensures ∙ c.in_err-check_entry.was in
    rw (p.1, p.2)
    (sym (c.loop-entry.invariant ∙ entry_fault c.args.entries.now c.loop-entry-test.true c.entry-item.is
    c.loop-entry.previous.now c.in_err-check_entry.field-0.0 bad))

pub returns-then-not-is_before : goal.returns-then-not-is_before
returns-then-not-is_before c = search (rules, order_fault)

pub returns-then-is_folder_of : goal.returns-then-is_folder_of
returns-then-is_folder_of c = search (rules, inside_fault)

pub loop-entry-preserved : goal.loop-entry-preserved
loop-entry-preserved c = search (rules, passes_at)

pub returns : goal.returns
returns c = sym (c.loop-entry.invariant
    ∙ passes_past c.args.entries.now c.loop-entry.entry-index c.loop-entry.previous.now c.loop-entry-test.false)
