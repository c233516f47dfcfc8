use Rattle.std.proofs.Common.{ℕ, ◌+◌, ◌-◌, ◌/◌, ◌%◌, sym, ap, ap₂, ◌∙◌, arith}
use Rattle.rs_field.specs.words.Field.{log}
use Rattle.rs_field.proofs.words_lemmas.Logarithms.{even_log, log_one, odd_log}
use Rattle.rs_field.proofs.words.logarithms.next_logarithm.Goals as goal

pub returns-then-z-eq1 : goal.returns-then-z-eq1
returns-then-z-eq1 c = sym log_one ∙ ap log (sym c.if-z-eq1.true)

pub returns-then-z-eq0 : goal.returns-then-z-eq0
returns-then-z-eq0 c = even_log c.args.skew.now c.args.z c.requires.table c.requires.some c.requires.few c.if-z-eq0.true

pub returns-else-z-eq0 : goal.returns-else-z-eq0
returns-else-z-eq0 c =
    c.difference.ensures
    ∙ ap₂ (λ (a b : ℕ). (a + (65535 - b)) % 65535)
    (c.requires.smaller (c.args.z / 2) (omega arith) (omega arith))
    (even_log c.args.skew.now (c.args.z - 1) c.requires.table (omega arith) (omega arith) (omega arith))
    ∙ odd_log c.args.z (omega arith) c.requires.few (omega arith)
