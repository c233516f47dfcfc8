use Rattle.std.proofs.Common.{rules}
use Rattle.rs_field.proofs.code_lemmas.EqualPowers.{one_code as one}
use Rattle.rs_field.proofs.code_lemmas.Linearity.{recovery-xor}
use Rattle.rs_field.proofs.code_lemmas.MadeShards.{has_recovery}
use Rattle.rs_field.proofs.code_lemmas.Pieces.{strips-join}
use Rattle.rs_field.proofs.code_lemmas.PieceStates.{recovery-cut}
use Rattle.rs_field.proofs.code_lemmas.Unique.{columns_unique}
use Rattle.rs_field.proofs.code.laws.recovery_laws.Goals as goal

pub returns : goal.returns
returns c = search (rules, has_recovery, recovery-xor, columns_unique, recovery-cut, strips-join, one)
