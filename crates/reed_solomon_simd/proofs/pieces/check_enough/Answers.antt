use Rattle.std.proofs.Common.{rules}
use Rattle.rs_field.proofs.code_lemmas.Entries.{count_most}
use Rattle.reed_solomon_simd.proofs.BaseLemmas.{decoder_frame}
use Rattle.reed_solomon_simd.proofs.pieces.check_enough.Goals as goal

pub overflow_add-original_received_count : goal.overflow_add-original_received_count
overflow_add-original_received_count g c = search (rules, decoder_frame, count_most)
