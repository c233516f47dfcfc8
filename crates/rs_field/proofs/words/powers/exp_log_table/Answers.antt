use Rattle.std.proofs.Common.{sym, ◌∙◌, arith}
use Rattle.std.proofs.lemmas.List.{length-set}
use Rattle.rs_field.proofs.words_lemmas.Power.{power_zero}
use Rattle.rs_field.proofs.words_lemmas.Tables.{exp_more, log_more, log_zero_more, power_next, filled_tables}
use Rattle.rs_field.proofs.words.powers.exp_log_table.Goals as goal

pub loop-n-init : goal.loop-n-init
loop-n-init c = record {
  exp_length = c.in_ok-exp.ensures.size;
  log_length = c.in_ok-log.ensures.size;
  at = sym power_zero;
  exp_so_far = λ k h. absurd (omega arith);
  log_so_far = λ k h. absurd (omega arith);
  log_zero = c.in_ok-log.ensures.entries 0 (omega arith);
}

pub loop-n-preserved : goal.loop-n-preserved
loop-n-preserved c =
    let i = c.loop-n.invariant in
    record {
      exp_length = length-set c.loop-n.exp.items c.loop-n.n c.loop-n.z ∙ i.exp_length;
      log_length = length-set c.loop-n.log.items c.loop-n.z c.loop-n.n ∙ i.log_length;
      at = power_next c.loop-n.n c.loop-n.z c.product_by_bytes-z.result i.at c.product_by_bytes-z.ensures;
      exp_so_far = exp_more c.loop-n.exp.items c.loop-n.n c.loop-n.z i.exp_length c.loop-n-test.true i.at i.exp_so_far;
      log_so_far = log_more c.loop-n.log.items c.loop-n.n c.loop-n.z i.log_length c.loop-n-test.true i.at
          (omega arith) i.log_so_far;
      log_zero = log_zero_more c.loop-n.log.items c.loop-n.n c.loop-n.z i.at i.log_zero;
    }

pub returns : goal.returns
returns c =
    let i = c.loop-n.invariant in
    filled_tables c.loop-n.exp.items c.loop-n.log.items c.loop-n.n i.exp_length i.log_length
    (omega arith) i.exp_so_far i.log_so_far i.log_zero
