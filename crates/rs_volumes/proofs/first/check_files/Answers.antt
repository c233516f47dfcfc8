use Rattle.std.proofs.Common.{◌^◌, ◌≤◌, sym, ◌∙◌, arith, rules}
use Rattle.std.proofs.lemmas.List.{get_or_default}
use Rattle.rs_volumes.proofs.FirstLemmas.{length_fault, name_fault, order_fault, passes_at, passes_past}
use Rattle.rs_volumes.proofs.first.check_files.Goals as goal

pub returns-then-file-clause-answer : goal.returns-then-file-clause-answer
returns-then-file-clause-answer c =
    let long : 2 ^ 62 ≤ c.file-item.result.size = omega arith in
    sym (c.loop-file.invariant.same
    ∙ length_fault c.args.files.now c.loop-file-test.true c.file-item.is
    c.loop-file.previous.now long)

pub returns-then-not-is_first_name-clause-answer : goal.returns-then-not-is_first_name-clause-answer
returns-then-not-is_first_name-clause-answer c = search (rules, name_fault)

pub returns-then-not-comes_before-clause-answer : goal.returns-then-not-comes_before-clause-answer
returns-then-not-comes_before-clause-answer c = search (rules, order_fault)

pub loop-file-preserved : goal.loop-file-preserved
loop-file-preserved c = search (rules, passes_at, get_or_default)

pub returns-clause-answer : goal.returns-clause-answer
returns-clause-answer c =
    sym (c.loop-file.invariant.same
    ∙ passes_past c.args.files.now c.loop-file.file-index c.loop-file.previous.now c.loop-file-test.false)
