use Rattle.rs_rate.proofs.passes_lemmas.DirectRows.{outside_base, none_summed, one_more_kept, one_more_summed}
use Rattle.rs_rate.proofs.passes.direct.sum_missing.Goals.{then-not-given-y, else-not-given-y}
use Rattle.rs_rate.proofs.passes.direct.sum_missing.Goals as goal

pub loop-i-init : goal.loop-i-init
loop-i-init g c =
    none_summed c.args.base.now c.row_len-len.result c.args.given.now c.args.configuration.frame
    c.args.chunks.now c.args.steps.now

pub loop-i-preserved : goal.loop-i-preserved
loop-i-preserved g c =
    let base = c.args.base.now in
    let given = c.args.given.now in
    let frame = c.args.configuration.frame in
    let n = c.row_len-len.result in
    elim c.if-not-given-y.branch [
      | then-not-given-y w ↦
          let ensures = w.set_to_sum.ensures in
          rw (w.chunks-is, w.steps-is) (one_more_summed base n given frame c.original_row-y.ensures c.loop-i.invariant
          w.if-not-given-y.true (outside_base c.original_row-y.result c.requires.first w.if-not-given-y.true)
          ensures.others ensures.sums ensures.counts)
      | else-not-given-y w ↦
          rw (w.chunks-is, w.steps-is) (one_more_kept base n given frame c.original_row-y.ensures c.loop-i.invariant
          w.if-not-given-y.false)
    ]
