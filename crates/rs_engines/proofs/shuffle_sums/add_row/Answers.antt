use Rattle.std.proofs.Common.{◌≡◌, ◌+◌, ◌-◌, ◌<◌, bit_xor, ap, ap₂, subst, ◌∙◌, arith}
use Rattle.rs_field.specs.words.Tables.{times_factor}
use Rattle.rs_engines.proofs.shuffle_sums.add_row.Goals as goal

pub returns-in-Some-clause-sums : goal.returns-in-Some-clause-sums
returns-in-Some-clause-sums g c k s d inside small from below =
    let logs = c.args.logs in
    let found = c.in-Some.ensures in
    let place : c.args.at + (d - c.args.at) ≡ d = omega (arith, from) in
    let few : d - c.args.at < g.G.SmallFactors.size = omega (arith, from, below, c.requires.size) in
    subst (λ d. g.W.Basis.value (g.R.ChangeRows.word c.add.new.rows k s d)
    ≡ bit_xor (g.W.Basis.value (g.R.ChangeRows.word c.args.rows.now k s d))
    (times_factor (g.A.AddedRows.log logs.added.now logs.index d) (g.A.ReadRows.word logs.added.now k s logs.index)))
    place
    (c.add.ensures.sums k s (d - c.args.at) (omega (arith, inside, c.row-row.ensures.length)) small
    (omega (arith, few, found.next.3))
    ∙ ap (bit_xor (g.W.Basis.value (g.R.ChangeRows.word c.args.rows.now k s (c.args.at + (d - c.args.at)))))
    (ap₂ times_factor (found.logs (d - c.args.at) few) (c.row-row.ensures.words k s inside small)))
