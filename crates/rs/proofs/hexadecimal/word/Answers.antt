use Rattle.std.proofs.Common.{sym, inl, inr}
use Rattle.rs.proofs.HexLemmas.{reads_ok, reads_err}
use Rattle.rs.proofs.hexadecimal.word.Goals as goal

pub returns-in-Ok : goal.returns-in-Ok
returns-in-Ok c = sym (reads_ok c.args.text.now _ c.in-Ok.ensures.ok)

pub returns-in_default : goal.returns-in_default
returns-in_default c =
    elim c.in-Err.ensures.err [
      | inl memory ↦ absurd (c.in_default.not-OutOfMemory memory)
      | inr refused ↦
          sym (reads_err c.args.text.now c.in-Err.e refused)
    ]
