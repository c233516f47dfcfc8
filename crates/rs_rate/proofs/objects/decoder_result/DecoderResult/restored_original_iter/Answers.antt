use Rattle.rs_rate.proofs.rows_lemmas.ResultLemmas.{lists-restored, restored-few}
use Rattle.rs_rate.proofs.objects.decoder_result.DecoderResult.restored_original_iter.Goals as goal

pub returns-clause-listed : goal.returns-clause-listed
returns-clause-listed c = lists-restored c.args.self.now.rows.now

pub returns-clause-few : goal.returns-clause-few
returns-clause-few c = restored-few c.args.self.now.rows.now
