use Rattle.std.proofs.Common.{rules, set, pow_mono}
use Rattle.std.proofs.lemmas.List.{get_or-set_same, get_or-set_other, length-set}
use Rattle.rs_rate.proofs.passes_lemmas.ChangeLemmas.{first_located}
use Rattle.rs_rate.proofs.passes.sums.locate_zero.Goals as goal

pub returns : goal.returns
returns g c z some within =
    search (rules, pow_mono, first_located, set, get_or-set_same, get_or-set_other, length-set)
