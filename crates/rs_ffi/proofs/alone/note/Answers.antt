use Rattle.std.proofs.Common.{rules}
use Rattle.std.proofs.lemmas.Nat.Bits.{shr_and_one}
use Rattle.rs_ffi.proofs.AloneLemmas.{note_outcome-more}
use Rattle.rs_ffi.proofs.alone.note.Goals as goal

pub returns-clause-answer : goal.returns-clause-answer
returns-clause-answer c indexes are = search (rules, shr_and_one, note_outcome-more)
