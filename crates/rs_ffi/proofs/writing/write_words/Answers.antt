use Rattle.std.proofs.Common.{[], ◌∙◌, length, refl, sym, zero-add}
use Rattle.rs_ffi.proofs.TextLemmas.{over-nothing}
use Rattle.rs_ffi.proofs.writing.write_words.Goals as goal

pub returns : goal.returns
returns c =
    let room = c.args.room.now in
    let sized = c.put.ensures.end ∙ zero-add (length c.args.words.now) in
    (sized, c.put.ensures.written [] room refl (sym (over-nothing room)))
