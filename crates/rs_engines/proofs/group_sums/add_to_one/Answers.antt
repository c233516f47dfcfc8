use Rattle.std.proofs.Common.{ap, sym, ◌∙◌, arith}
use Rattle.rs_field.specs.words.Tables.{times_factor}
use Rattle.rs_engines.specs.Factors.{log_of}
use Rattle.rs_engines.proofs.Groups.{one-changed}
use Rattle.rs_engines.proofs.group_sums.add_to_one.Goals as goal

pub returns-in-Zero-clause-sums : goal.returns-in-Zero-clause-sums
returns-in-Zero-clause-sums g c k s inside small =
    one-changed (g.R.ChangeRows.word c.args.rows.now k s) (g.R.ChangeRows.word c.add_to_group.new.rows k s)
    (λ l. times_factor l (g.Y.ReadChunks.word c.args.added k s)) c.args.at 65535 c.args.log_m
    (ap log_of (sym c.in-Zero.is) ∙ c.factor_of.ensures)
    (c.add_to_group.ensures.sums k s 0 inside small (omega arith))

pub returns-in-Small-clause-sums : goal.returns-in-Small-clause-sums
returns-in-Small-clause-sums g c k s inside small =
    one-changed (g.R.ChangeRows.word c.args.rows.now k s) (g.R.ChangeRows.word c.add_to_group-in-Small.new.rows k s)
    (λ l. times_factor l (g.Y.ReadChunks.word c.args.added k s)) c.args.at c.in-Small.field-0.log_m c.args.log_m
    (ap log_of (sym c.in-Small.is) ∙ c.factor_of.ensures)
    (c.add_to_group-in-Small.ensures.sums k s 0 inside small (omega arith))

pub returns-in-General-clause-sums : goal.returns-in-General-clause-sums
returns-in-General-clause-sums g c k s inside small =
    one-changed (g.R.ChangeRows.word c.args.rows.now k s) (g.R.ChangeRows.word c.add_to_group-in-General.new.rows k s)
    (λ l. times_factor l (g.Y.ReadChunks.word c.args.added k s)) c.args.at c.in-General.field-0.log_m c.args.log_m
    (ap log_of (sym c.in-General.is) ∙ c.factor_of.ensures)
    (c.add_to_group-in-General.ensures.sums k s 0 inside small (omega arith))
