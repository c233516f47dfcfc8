use Rattle.rs_field.proofs.words_lemmas.Locator.{power-log_sum}
use Rattle.rs_field.proofs.words_lemmas.Subspace.{subspace_shift}
use Rattle.rs_field.proofs.code.laws.point_laws.Goals as goal

pub returns : goal.returns
returns c = record { subspace = subspace_shift; locator = power-log_sum }
