use Rattle.std.proofs.Common.{rules}
use Rattle.rs_field.proofs.words_lemmas.Packed.{sum_of_bytes}
use Rattle.rs_field.proofs.rows.sums.xor_chunk.Goals as goal

pub returns-clause-symbols : goal.returns-clause-symbols
returns-clause-symbols c s h = search (rules, sum_of_bytes)
