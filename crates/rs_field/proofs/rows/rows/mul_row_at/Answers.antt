use Rattle.rs_field.specs.rows.View.{cell}
use Rattle.rs_field.proofs.rows.rows.mul_row_at.Goals as goal

pub returns-clause-products : goal.returns-clause-products
unfolding cell
returns-clause-products g c k s inside symbols = c.mul_run.ensures.products k s inside symbols
