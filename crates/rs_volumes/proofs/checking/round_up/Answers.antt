use Rattle.std.proofs.Common.{rules}
use Rattle.rs_volumes.proofs.DataLemmas.{multiple_fits}
use Rattle.rs_volumes.proofs.checking.round_up.Goals as goal

pub overflow_mul-result : goal.overflow_mul-result
overflow_mul-result c = search (rules, multiple_fits)
