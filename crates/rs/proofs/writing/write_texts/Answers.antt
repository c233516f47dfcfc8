use Rattle.std.proofs.Common.{◌∙◌, ap, refl}
use Rattle.std.specs.String.{string_bytes}
use Rattle.rs.proofs.WritingLemmas.{text-at, cut-at}
use Rattle.rs.proofs.writing.write_texts.Goals as goal

pub loop-text-preserved : goal.loop-text-preserved
loop-text-preserved g c =
    let contents = g.W.Write.contents in
    let same = c.as_str.ensures.value ∙ ap string_bytes c.text-item.is in
    text-at string_bytes (contents c.args.stream.now.writer) (contents c.loop-text.stream.writer)
    (contents c.write_text.new.stream.writer) c.args.texts.now c.loop-text.text-index c.text-item.result
    c.loop-text-test.true c.loop-text.invariant (rw same at (c.if-not-write_text.ensures.whole refl))

pub returns-then-not-write_text-clause-cut : goal.returns-then-not-write_text-clause-cut
returns-then-not-write_text-clause-cut g c = λ _.
    let contents = g.W.Write.contents in
    let same = c.as_str.ensures.value ∙ ap string_bytes c.text-item.is in
    let cut = c.if-not-write_text.ensures.cut refl in (
      cut.0,
      cut-at string_bytes (contents c.args.stream.now.writer) (contents c.loop-text.stream.writer)
          (contents c.write_text.new.stream.writer) c.args.texts.now c.loop-text.text-index c.text-item.result
          c.loop-text-test.true c.loop-text.invariant
          (rw same at (cut.1)),
    )
