use Rattle.std.proofs.Common.{rules, ◌/◌, ◌%◌, ◌∙◌, ap, arith}
use Rattle.rs_field.specs.rows.Rows.{symbol}
use Rattle.rs_field.proofs.rows_lemmas.RowOffsets.{row_ends}
use Rattle.rs_field.proofs.rows_lemmas.Symbols.{symbol-zero}
use Rattle.rs_rate.proofs.passes_lemmas.DirectRows.{cleared_sum}
use Rattle.rs_rate.proofs.passes.direct.set_to_sum.Goals as goal

pub returns-clause-sums : goal.returns-clause-sums
returns-clause-sums g c k s hk hs =
    let n = c.args.len in
    let ends = row_ends c.args.y _ n c.requires.within in
    c.add_sum.ensures.sums k s hk hs
    ∙ cleared_sum c.args.base.now c.args.chunks.now c.clear.new.x n c.args.y _ _ k s (omega arith) (omega arith)
    (omega (arith, ends, c.requires.rows)) (search rules)
    (λ j h. ap (λ d. symbol d (j % 32)) (c.clear.ensures (j / 32) (search rules)) ∙ symbol-zero (j % 32) (omega arith))
    c.requires.outside hk hs
