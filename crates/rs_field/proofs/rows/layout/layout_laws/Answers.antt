use Rattle.rs_field.proofs.rows_lemmas.LayoutLemmas.{column-laid_out}
use Rattle.rs_field.proofs.rows.layout.layout_laws.Goals as goal

pub returns : goal.returns
returns c size j chunks even = column-laid_out size j chunks
