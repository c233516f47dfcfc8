use Rattle.std.proofs.Common.{[], ◌++◌, decimal, ◌∙◌, length, refl, sym, zero-add}
use Rattle.rs_ffi.proofs.TextLemmas.{over-nothing, longer}
use Rattle.rs_ffi.proofs.writing.write_one.Goals as goal

pub returns : goal.returns
returns c =
    let old = c.args.room.now in
    let a = c.args.first.0.now in let d = decimal c.args.first.1 in let e = c.args.end.now in
    let begin = sym (c.put-at.ensures.end ∙ zero-add (length a)) in
    let first = c.put-at.ensures.written [] old refl (sym (over-nothing old)) in
    let number = c.put_number-at.ensures.written a old begin first in
    let at = longer a d begin c.put_number-at.ensures.end.0 in
    let whole = longer (a ++ d) e at c.put.ensures.end in
    (sym whole, c.put.ensures.written (a ++ d) old at number)
