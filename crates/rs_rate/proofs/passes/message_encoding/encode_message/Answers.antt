use Rattle.std.proofs.Common.{rules, ◌/◌, ◌%◌, [], refl, sym, ap, ◌∙◌}
use Rattle.std.proofs.Common.{subst, arith}
use Rattle.rs_field.specs.code.Code.{AreRecovery}
use Rattle.rs_field.specs.code.Column.{IsShard, column, shard_at}
use Rattle.rs_field.specs.rows.Layout.{row_len}
use Rattle.rs_field.specs.rows.Rows.{word_in}
use Rattle.rs_field.specs.words.UpTo.{up_to}
use Rattle.rs_field.proofs.words_lemmas.Counting.{counts_rows}
use Rattle.rs_field.proofs.words_lemmas.UpTo.{up_to-is}
use Rattle.rs_rate.specs.passes.Reading.{strip_rows}
use Rattle.rs_rate.specs.rows.ShardRows.{shard_in_order}
use Rattle.rs_rate.specs.values.Configured.{configuration_at, rate_of}
use Rattle.rs_rate.proofs.rows_lemmas.ShardRowsLemmas.{chunk_count-more, column-put}
use Rattle.rs_rate.proofs.passes_lemmas.Coded.{are_recovery, words-read}
use Rattle.rs_rate.proofs.passes_lemmas.EncodeCounting.{counts_both, tails_within}
use Rattle.rs_rate.proofs.passes_lemmas.Reading.{recovery_fits}
use Rattle.rs_rate.proofs.passes.message_encoding.encode_message.Goals as goal

pub rows_are_bytes-requires : goal.rows_are_bytes-requires
rows_are_bytes-requires g c =
    let own = c.args.configuration in
    let rise = chunk_count-more own.recovery_count (strip_rows c.args.reads own) own.shard_bytes
    (recovery_fits c.args.reads own c.requires.configured c.requires.can) in
    omega (arith, rise, c.requires.room, c.code_message.auto.chunks)

pub move_tails-requires-clause-room : goal.move_tails-requires-clause-room
move_tails-requires-clause-room g c =
    let own = c.args.configuration in
    let rise = chunk_count-more own.recovery_count (strip_rows c.args.reads own) own.shard_bytes
    (recovery_fits c.args.reads own c.requires.configured c.requires.can) in
    omega (arith, rise, c.requires.room, c.code_message.auto.chunks)

pub returns-clause-recovery : goal.returns-clause-recovery
returns-clause-recovery g c =
    let own = c.args.configuration in
    let size = own.shard_bytes in
    let rate = rate_of own in
    let shards = g.M.StripMessage.shards c.args.message.now in
    subst (λ given.
    AreRecovery (configuration_at rate c.args.configuration) given
    (up_to own.recovery_count (shard_in_order c.move_tails.new.chunks size)))
    (up_to-is [] own.original_count (shard_at shards) shards c.requires.number (λ i few. refl))
    (are_recovery (configuration_at rate c.args.configuration) (shard_at shards)
    (shard_in_order c.move_tails.new.chunks size)
    (λ i few. subst (λ s. IsShard size s) (sym (c.move_tails.ensures.moved i (omega arith)))
    (c.rows_are_bytes.ensures.laid_out i few))
    (λ j inside.
    words-read rate own.original_count own.recovery_count
    (λ i. column j (shard_at shards i)) (word_in c.code_message.new.chunks (row_len size) (j / 32) (j % 32))
    (λ i. column j (shard_at shards i)) (λ q. column j (shard_in_order c.move_tails.new.chunks size q))
    (λ i few. refl)
    (λ i few. ap (column j) (c.move_tails.ensures.moved i (omega arith))
    ∙ column-put c.code_message.new.chunks size i j c.requires.configured.even inside)
    (c.code_message.ensures.words j inside)))

pub returns-clause-counts : goal.returns-clause-counts
returns-clause-counts g c = search (rules, tails_within, counts_both, counts_rows)
