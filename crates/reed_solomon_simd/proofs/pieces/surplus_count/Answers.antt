use Rattle.std.proofs.Common.{rules}
use Rattle.rs_field.proofs.code_lemmas.Entries.{count_most}
use Rattle.reed_solomon_simd.proofs.BaseLemmas.{decoder_frame}
use Rattle.reed_solomon_simd.proofs.pieces.surplus_count.Goals as goal

pub overflow_add-all : goal.overflow_add-all
overflow_add-all g c = search (rules, decoder_frame, count_most)
