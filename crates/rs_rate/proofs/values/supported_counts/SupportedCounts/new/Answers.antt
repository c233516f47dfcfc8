use Rattle.std.proofs.Common.{rules}
use Rattle.rs_rate.proofs.values_lemmas.FrameLemmas.{frame-some}
use Rattle.rs_rate.proofs.values.supported_counts.SupportedCounts.new.Goals as goal

pub invariant_of-result : goal.invariant_of-result
invariant_of-result g c = search (rules, frame-some)
