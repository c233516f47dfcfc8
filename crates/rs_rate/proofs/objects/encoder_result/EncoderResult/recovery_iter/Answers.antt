use Rattle.rs_rate.proofs.rows_lemmas.ResultLemmas.{recovery-few}
use Rattle.rs_rate.proofs.objects.encoder_result.EncoderResult.recovery_iter.Goals as goal

pub returns-clause-few : goal.returns-clause-few
returns-clause-few c = recovery-few c.args.self.now.rows.now
