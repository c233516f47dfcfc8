use Rattle.std.proofs.Common.{rules, pow_mono}
use Rattle.rs_rate.proofs.passes_lemmas.SumLemmas.{log_mod}
use Rattle.rs_rate.proofs.passes.sums.set_logarithms.Goals as goal

pub logarithms-requires : goal.logarithms-requires
logarithms-requires g c = search (rules, pow_mono)

pub returns-else-not-logarithms : goal.returns-else-not-logarithms
returns-else-not-logarithms g c z some inside = search (rules, pow_mono, log_mod)
