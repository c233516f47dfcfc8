use Rattle.std.proofs.Common.{rules}
use Rattle.reed_solomon_simd.proofs.UpdateLemmas.{column-xor}
use Rattle.reed_solomon_simd.proofs.updating.put_change.Goals as goal

pub returns-clause-words : goal.returns-clause-words
returns-clause-words c = search (rules, column-xor)
