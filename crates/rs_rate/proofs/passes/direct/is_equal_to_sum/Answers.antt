use Rattle.std.proofs.lemmas.Grind.{common_steps}
use Rattle.std.proofs.Common.{arith}
use Rattle.rs_field.proofs.rows_lemmas.Recursion.{fits_kept}
use Rattle.rs_field.proofs.words_lemmas.Roots.{same_from_xor}
use Rattle.rs_rate.proofs.passes_lemmas.RestoringRows.{row-read}
use Rattle.rs_rate.proofs.passes.direct.is_equal_to_sum.Goals as goal

pub returns-clause-equal : goal.returns-clause-equal
returns-clause-equal g c = grind (arith, common_steps, row-read, fits_kept, same_from_xor)
