use Rattle.std.proofs.Common.{rules}
use Rattle.rs_field.proofs.code_lemmas.NextPower.{power_is_own}
use Rattle.rs_field.proofs.rows.block.Block.new.Goals as goal

pub invariant_of-result : goal.invariant_of-result
invariant_of-result c = search (rules, power_is_own)
