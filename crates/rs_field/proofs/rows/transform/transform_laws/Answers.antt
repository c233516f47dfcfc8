use Rattle.rs_field.proofs.words_lemmas.Injective.{transforms_are_inverse}
use Rattle.rs_field.proofs.rows.transform.transform_laws.Goals as goal

pub returns : goal.returns
returns c = transforms_are_inverse
