use Rattle.std.proofs.Common.{rules, sym, ◌∙◌}
use Rattle.rs_volumes.proofs.CheckLemmas.{known_at, unknown_at, known_past}
use Rattle.rs_volumes.proofs.checking.has_known_fields.Goals as goal

pub returns-then-field : goal.returns-then-field
returns-then-field c = search (rules, unknown_at)

pub loop-field-preserved : goal.loop-field-preserved
loop-field-preserved c = search (rules, known_at)

pub returns : goal.returns
returns c = sym (c.loop-field.invariant
    ∙ known_past c.args.fields.now c.loop-field.field-index c.loop-field-test.false)
