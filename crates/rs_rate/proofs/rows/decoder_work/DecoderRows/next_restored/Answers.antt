use Rattle.std.proofs.Common.{◌∙◌}
use Rattle.rs_rate.proofs.rows_lemmas.ResultLemmas.{restored_from-past, restored_from-none, restored_from-some}
use Rattle.rs_rate.proofs.rows.decoder_work.DecoderRows.next_restored.Goals as goal

pub returns-in-Some : goal.returns-in-Some
returns-in-Some c = (
  c.loop-index-test.true,
  c.loop-index.invariant
      ∙ restored_from-some c.args.self.now c.loop-index.index c.restored_original.result c.in-Some.shard
      c.loop-index-test.true c.in-Some.is c.restored_original.ensures,
)

pub loop-index-preserved : goal.loop-index-preserved
loop-index-preserved c =
    c.loop-index.invariant
    ∙ restored_from-none c.args.self.now c.loop-index.index c.restored_original.result c.loop-index-test.true
    c.in_default.is c.restored_original.ensures

pub returns : goal.returns
returns c = c.loop-index.invariant ∙ restored_from-past c.args.self.now c.loop-index.index c.loop-index-test.false
