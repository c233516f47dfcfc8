use Rattle.std.proofs.Common.{◌≡◌, ◌+◌, length, sym, subst, arith}
use Rattle.std.proofs.lemmas.List.{length-append}
use Rattle.rs_engines.proofs.row_factors.TwoGroupsRowFactors.add.Goals as goal

pub add-requires-clause-has : goal.add-requires-clause-has
add-requires-clause-has g c d few =
    let first = g.A.RowFactors.logs c.args.self.first in
    let second = g.B.RowFactors.logs c.args.self.second in
    let all = length-append first second in
    let place : c.args.at + (length (g.A.RowFactors.logs c.args.self.first) + d) ≡ c.add-next.result + d =
    omega (arith, c.add-next.ensures.next) in
    subst (λ i. g.R.ChangeRows.has (g.R.ChangeRows.kept c.add-next.new.rows) i c.args.k) place
    (subst (λ kept. g.R.ChangeRows.has kept (c.args.at + (length first + d)) c.args.k) (sym c.add-next.ensures.kept)
    (c.requires.has (length first + d) (omega (arith, all, few))))
