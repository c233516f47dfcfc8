-- The rows from row 0 on are all rows.
use Rattle.rs_field.proofs.rows_lemmas.DerivativeStep.{derivative_all}
use Rattle.rs_field.proofs.rows.derivative.formal_derivative.Goals as goal

pub returns-clause-derivative : goal.returns-clause-derivative
returns-clause-derivative c k s hk hs =
    derivative_all _ _ c.len-size.ensures (c.derivative_within.ensures.derivative k s hk hs)
