use Rattle.std.proofs.Common.{rules}
use Rattle.rs_field.specs.words.Field.{product, combine, bits, from_bits, cantor_basis, monomials, carryless, reduce}
use Rattle.rs_field.specs.code.Column.{column}
use Rattle.rs_field.proofs.worked.words.Goals as goal

pub returns : goal.returns
unfolding product combine bits from_bits cantor_basis monomials carryless reduce column
returns c = search rules
