use Rattle.std.proofs.Common.{[], ◌++◌, decimal, ◌∙◌, length, refl, sym, zero-add}
use Rattle.rs_ffi.proofs.TextLemmas.{over-nothing, longer}
use Rattle.rs_ffi.proofs.writing.write_two.Goals as goal

pub returns : goal.returns
returns c =
    let old = c.args.room.now in
    let a = c.args.first.0.now in let d = decimal c.args.first.1 in
    let b = c.args.second.0.now in let f = decimal c.args.second.1 in let e = c.args.end.now in
    let begin = sym (c.put-at.ensures.end ∙ zero-add (length a)) in
    let first = c.put-at.ensures.written [] old refl (sym (over-nothing old)) in
    let one = c.put_number-at.ensures.written a old begin first in
    let at1 = longer a d begin c.put_number-at.ensures.end.0 in
    let second = c.put-at-2.ensures.written (a ++ d) old at1 one in
    let at2 = longer (a ++ d) b at1 c.put-at-2.ensures.end in
    let two = c.put_number-at-2.ensures.written (a ++ d ++ b) old at2 second in
    let at3 = longer (a ++ d ++ b) f at2 c.put_number-at-2.ensures.end.0 in
    let whole = longer (a ++ d ++ b ++ f) e at3 c.put.ensures.end in
    (sym whole, c.put.ensures.written (a ++ d ++ b ++ f) old at3 two)
