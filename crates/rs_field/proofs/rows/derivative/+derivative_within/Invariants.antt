use Rattle.rs_field.proofs.rows.derivative.+derivative_within.Given as goal

abbrev pub decreases-derivative_within : goal.decreases-derivative_within
decreases-derivative_within l = l.size
