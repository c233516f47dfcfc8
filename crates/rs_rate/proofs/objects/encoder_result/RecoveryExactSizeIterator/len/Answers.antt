use Rattle.std.proofs.Common.{length, sym, ap, ◌∙◌}
use Rattle.rs_rate.proofs.rows_lemmas.ResultLemmas.{length-left}
use Rattle.rs_rate.proofs.objects.encoder_result.RecoveryExactSizeIterator.len.Goals as goal

pub returns-clause-value : goal.returns-clause-value
returns-clause-value c = sym (length-left c.self.inside.rows.now c.self.inside.next_index) ∙ ap length c.self.view_is
