use Rattle.std.proofs.Common.{arith, sym}
use Rattle.rs_rate.specs.rows.DecoderView.{decoder_state}
use Rattle.rs_rate.proofs.rows_lemmas.DecoderRows.{enough-few, enough-many}
use Rattle.rs_rate.proofs.rows_lemmas.RowMaps.{hold-most}
use Rattle.rs_rate.proofs.rows.decoder_work.DecoderRows.check_enough_given.Goals as goal

pub overflow_add-self : goal.overflow_add-self
overflow_add-self c =
    let w = c.args.self.now in
    let most = hold-most w.given in
    omega (arith, most.0, most.1)

pub returns-then-self : goal.returns-then-self
returns-then-self c = λ rate.
    let given = c.args.self.now.given in
    sym (enough-few (decoder_state rate c.args.self.now) _ _ given.originals_counted given.recovery_counted
    c.if-self.true)

pub returns : goal.returns
returns c = λ rate.
    let given = c.args.self.now.given in
    sym (enough-many (decoder_state rate c.args.self.now) _ _ given.originals_counted given.recovery_counted
    c.if-self.false)
