use Rattle.rs_rate.proofs.rows_lemmas.RowMaps.{hold_nothing, nothing-given, none-marked}
use Rattle.rs_rate.proofs.rows.decoder_work.DecoderRowsObjectRows.reset.Goals as goal

pub invariant_of-self-2 : goal.invariant_of-self-2
invariant_of-self-2 c =
    let made = c.in_ok-lay_out.ensures in
    record {
      configured = c.requires;
      laid_out = made.laid_out;
      given = hold_nothing _ _ (none-marked _ _ made.empty);
    }

pub returns-clause-ok : goal.returns-clause-ok
returns-clause-ok c = λ rate.
    nothing-given rate c.args.configuration _ (none-marked _ _ c.in_ok-lay_out.ensures.empty)
