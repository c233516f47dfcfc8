use Rattle.std.proofs.Common.{rules, ℕ, ◌/◌, ◌%◌, ap, sym, subst, ◌∙◌, arith}
use Rattle.std.proofs.lemmas.List.{with_items_is}
use Rattle.rs_field.specs.code.Code.{AreRecovery}
use Rattle.rs_field.specs.code.Column.{IsShard, column}
use Rattle.rs_field.specs.rows.Rows.{Chunks, word_in}
use Rattle.rs_field.specs.rows.Layout.{row_len}
use Rattle.rs_field.specs.words.UpTo.{up_to}
use Rattle.rs_field.proofs.words_lemmas.Counting.{counts_rows}
use Rattle.rs_rate.specs.values.Configured.{configuration_at, rate_of, rows_to_encode}
use Rattle.rs_rate.specs.rows.EncoderView.{given_originals}
use Rattle.rs_rate.specs.rows.ShardRows.{shard_laid_out, shard_in_order}
use Rattle.rs_rate.proofs.rows_lemmas.ShardRowsLemmas.{chunk_count-more, column-put}
use Rattle.rs_rate.proofs.passes_lemmas.Coded.{are_recovery, words-read}
use Rattle.rs_rate.proofs.passes_lemmas.EncodeCounting.{counts_both, tails_within}
use Rattle.rs_rate.proofs.passes.encoding.encode_rows.Goals as goal

pub rows_are_bytes-requires : goal.rows_are_bytes-requires
rows_are_bytes-requires g c = search (rules, chunk_count-more)

pub move_tails-requires-clause-room : goal.move_tails-requires-clause-room
move_tails-requires-clause-room g c =
    let w = c.args.rows.now in
    let rise = chunk_count-more w.configuration.recovery_count (rows_to_encode w.configuration)
    w.configuration.shard_bytes
    w.configured.recovery in
    omega (arith, rise, w.whole, c.code_chunks.auto.chunks, c.as_mut_slice-chunks.ensures.len)

pub returns-clause-recovery : goal.returns-clause-recovery
returns-clause-recovery g c =
    let w = c.args.rows.now in
    let own = w.configuration in
    let size = own.shard_bytes in
    let rate = rate_of own in
    let before = c.as_mut_slice-chunks.result.now in
    let coded =
    are_recovery (configuration_at rate w.configuration) (shard_laid_out before size)
    (shard_in_order c.move_tails.new.chunks size)
    (λ i few. subst (λ s. IsShard size s) (sym (c.move_tails.ensures.moved i (omega arith)))
    (c.rows_are_bytes.ensures.laid_out i few))
    (λ j inside.
    let read = λ (xs : Chunks) (i : ℕ). column-put xs size i j w.configured.even inside in
    words-read rate own.original_count own.recovery_count
    (word_in before (row_len size) (j / 32) (j % 32))
    (word_in c.code_chunks.new.chunks (row_len size) (j / 32) (j % 32))
    (λ q. column j (shard_laid_out before size q)) (λ q. column j (shard_in_order c.move_tails.new.chunks size q))
    (λ i few. read before i)
    (λ i few. ap (column j) (c.move_tails.ensures.moved i (omega arith)) ∙ read c.code_chunks.new.chunks i)
    (c.code_chunks.ensures.words (j / 32) (j % 32) (omega (arith, inside)) (omega arith))) in
    subst (λ (xs : Chunks).
    AreRecovery (configuration_at rate w.configuration) (given_originals w)
    (up_to own.recovery_count (shard_in_order xs size)))
    (sym (with_items_is w.chunks c.move_tails.new.chunks
    (omega (arith, c.move_tails.auto.chunks, c.code_chunks.auto.chunks, c.as_mut_slice-chunks.ensures.len))))
    (subst (λ (n : ℕ). AreRecovery (configuration_at rate w.configuration)
    (up_to n (shard_laid_out w.chunks.items size))
    (up_to own.recovery_count (shard_in_order c.move_tails.new.chunks size))) (sym c.requires.full)
    (subst (λ (xs : Chunks).
    AreRecovery (configuration_at rate w.configuration) (up_to own.original_count (shard_laid_out xs size))
    (up_to own.recovery_count (shard_in_order c.move_tails.new.chunks size)))
    c.as_mut_slice-chunks.ensures.value coded))

pub returns-clause-counts : goal.returns-clause-counts
returns-clause-counts g c = search (rules, tails_within, counts_both, counts_rows)
