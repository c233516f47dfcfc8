use Rattle.rs_rate.proofs.rows_lemmas.RowMaps.{hold_nothing, nothing-given, none-marked}
use Rattle.rs_rate.proofs.rows.decoder_work.DecoderRowsObjectRows.new.Goals as goal

pub invariant_of-result : goal.invariant_of-result
invariant_of-result c =
    let made = c.in_ok-memory.ensures in
    record {
      configured = c.requires;
      laid_out = made.laid_out;
      given = hold_nothing _ _ (none-marked _ _ made.empty);
    }

pub returns-clause-state : goal.returns-clause-state
returns-clause-state c = λ rate.
    nothing-given rate c.args.configuration _ (none-marked _ _ c.in_ok-memory.ensures.empty)
