use Rattle.std.proofs.Common.{arith}
use Rattle.rs_rate.proofs.passes_lemmas.ZeroPadded.{zero_padded-past}
use Rattle.rs_rate.proofs.passes.read_encoding.BlockRowsReadRows.used.Goals as goal

pub returns-clause-zeros : goal.returns-clause-zeros
returns-clause-zeros g c k s i inside symbols past few =
    zero_padded-past c.args.self.now.message.now.count _ _
    (omega (arith, past, few, c.min.ensures, c.saturating_sub-left.ensures))
