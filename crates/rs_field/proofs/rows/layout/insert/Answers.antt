use Rattle.std.proofs.Common.{rules}
use Rattle.rs_field.proofs.rows_lemmas.LayoutLemmas.{laid_out-is, get-rest}
use Rattle.rs_field.proofs.rows.layout.insert.Goals as goal

pub returns-then-half-gt0 : goal.returns-then-half-gt0
returns-then-half-gt0 c = search (rules, laid_out-is, get-rest)

pub returns-else-half-gt0 : goal.returns-else-half-gt0
returns-else-half-gt0 c = search (rules, laid_out-is)
