use Rattle.std.proofs.Common.{refl, arith}
use Rattle.rs_field.proofs.rows_lemmas.Written.{four_written}
use Rattle.rs_field.proofs.rows.kernel_engine.ifft_of_four.Goals as goal

pub returns-then-is_written-clause-written : goal.returns-then-is_written-clause-written
returns-then-is_written-clause-written g c is k s inside symbols =
    let len₀ = c.row.ensures.length in
    let len₁ = c.row-2.ensures.length in
    let len₂ = c.row-3.ensures.length in
    let len₃ = c.row-4.ensures.length in
    four_written c.args.writing c.tables.result.skew.now c.tables.result.skew_entries c.args.skew_delta _ k s
    c.args.x.now _ (g.R.ReadRows.word c.args.rows.now k s) _ c.row.result.now c.row-2.result.now
    c.row-3.result.now c.row-4.result.now c.requires.shift c.requires.points len₀
    (c.symbols_are_words.ensures k s (omega (arith, inside, len₀)) symbols)
    (c.symbols_are_words-2.ensures k s (omega (arith, inside, len₁)) symbols)
    (c.symbols_are_words-3.ensures k s (omega (arith, inside, len₂)) symbols)
    (c.symbols_are_words-4.ensures k s (omega (arith, inside, len₃)) symbols)
    (c.row.ensures.words k s inside symbols) (c.row-2.ensures.words k s inside symbols)
    (c.row-3.ensures.words k s inside symbols) (c.row-4.ensures.words k s inside symbols)
    (c.if-is_written.ensures.written refl k s (omega (arith, inside, len₀)) symbols)
