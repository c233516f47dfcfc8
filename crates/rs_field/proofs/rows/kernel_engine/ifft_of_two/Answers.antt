use Rattle.std.proofs.Common.{refl, arith}
use Rattle.rs_field.proofs.rows_lemmas.Written.{two_written}
use Rattle.rs_field.proofs.rows.kernel_engine.ifft_of_two.Goals as goal

pub returns-then-is_written-clause-written : goal.returns-then-is_written-clause-written
returns-then-is_written-clause-written g c is k s inside symbols =
    let len = c.row-y0.ensures.length in
    let len_too = c.row-y1.ensures.length in
    two_written c.args.writing c.tables.result.skew.now c.tables.result.skew_entries c.args.skew_delta _ k s
    c.args.x.now _ (g.R.ReadRows.word c.args.rows.now k s) _ c.row-y0.result.now c.row-y1.result.now
    c.requires.shift c.requires.points len
    (c.symbols_are_words.ensures k s (omega (arith, inside, len)) symbols)
    (c.symbols_are_words-2.ensures k s (omega (arith, inside, len_too)) symbols)
    (c.row-y0.ensures.words k s inside symbols) (c.row-y1.ensures.words k s inside symbols)
    (c.if-is_written.ensures.written refl k s (omega (arith, inside, len)) symbols)
