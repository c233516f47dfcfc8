use Rattle.std.proofs.Common.{map, inl, inr, refl, sym, ◌∙◌}
use Rattle.std.specs.String.{string_bytes}
use Rattle.rs.specs.Printed.{concatenation}
use Rattle.rs.proofs.PrintedLemmas.{refusal-reported}
use Rattle.rs.proofs.program.run.Goals as goal

pub returns-in-Err-clause-refused : goal.returns-in-Err-clause-refused
returns-in-Err-clause-refused g c = λ one.
    let reported = refusal-reported (map string_bytes c.args.words.now) c.in-Err.fault c.report.ensures.0
    (sym c.status.ensures ∙ one) c.in-Err.ensures.answer c.report.ensures.1 in
    inl (reported.0, reported.1, refl, rw reported.2 at c.report.ensures.2)

pub returns-in-Ok-2-clause-refused : goal.returns-in-Ok-2-clause-refused
returns-in-Ok-2-clause-refused g c = λ _.
    inr (
      concatenation c.in-Ok.lines.texts,
      c.in-Ok.ensures.answer,
      refl,
      rw c.texts.ensures at
          (c.if-write_texts.ensures.cut refl),
    )
