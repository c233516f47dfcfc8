use Rattle.std.proofs.Common.{◌≡◌, ℕ, ◌+◌, ◌*◌, ◌/◌, ◌%◌, ◌≤◌, Bool, length, refl, sym, ap, ◌∙◌, subst, arith}
use Rattle.rs_field.specs.code.Column.{column, shard_at}
use Rattle.rs_field.specs.rows.Layout.{row_len}
use Rattle.rs_field.specs.rows.Rows.{word_in}
use Rattle.rs_rate.specs.passes.Coding.{CodesWords}
use Rattle.rs_rate.specs.passes.Reading.{message_word, strip_rows}
use Rattle.rs_rate.specs.values.ChunkCounts.{chunk_count}
use Rattle.rs_rate.specs.values.Configured.{low_or_high, rate_of, rows_to_encode}
use Rattle.rs_rate.proofs.rows_lemmas.ShardRowsLemmas.{chunk_count-more, column-put}
use Rattle.rs_rate.proofs.passes_lemmas.Coded.{words-read}
use Rattle.rs_rate.proofs.passes.message_encoding.code_message.Goals as goal

pub put_message-requires-clause-room : goal.put_message-requires-clause-room
put_message-requires-clause-room g c =
    let own = c.args.configuration in
    let room : chunk_count (rows_to_encode own) own.shard_bytes ≤ length c.args.chunks.now =
    subst (λ (reads : Bool). chunk_count (strip_rows reads own) own.shard_bytes ≤ length c.args.chunks.now)
    c.if-reads.false c.requires.room in
    let more = chunk_count-more own.original_count (rows_to_encode own) own.shard_bytes
    c.requires.configured.originals in
    omega (arith, more, room)

pub returns-then-reads-clause-words : goal.returns-then-reads-clause-words
returns-then-reads-clause-words g c j inside =
    let own = c.args.configuration in
    let shards = g.M.StripMessage.shards c.args.message.now in
    let n : ℕ = row_len own.shard_bytes in
    words-read (rate_of own) own.original_count own.recovery_count (message_word shards (j / 32) (j % 32))
    (word_in c.code_read.new.chunks n (j / 32) (j % 32)) (λ i. column j (shard_at shards i))
    (word_in c.code_read.new.chunks n (j / 32) (j % 32))
    (λ i few. ap (λ (v : ℕ). column v (shard_at shards i))
    (let place : j ≡ j / 32 * 32 + j % 32 = omega arith in place))
    (λ i few. refl)
    (subst (λ (low : Bool). CodesWords (low_or_high low) own.original_count own.recovery_count
    (message_word shards (j / 32) (j % 32)) (word_in c.code_read.new.chunks n (j / 32) (j % 32)))
    (sym (c.requires.can c.if-reads.true).high)
    (c.code_read.ensures.words (j / 32) (j % 32) (omega (arith, inside)) (omega arith)))

pub returns-else-reads-clause-words : goal.returns-else-reads-clause-words
returns-else-reads-clause-words g c j inside =
    let own = c.args.configuration in
    let shards = g.M.StripMessage.shards c.args.message.now in
    let n : ℕ = row_len own.shard_bytes in
    let put = c.put_message.new.chunks in
    words-read (rate_of own) own.original_count own.recovery_count
    (word_in put n (j / 32) (j % 32)) (word_in c.code_chunks.new.chunks n (j / 32) (j % 32))
    (λ i. column j (shard_at shards i)) (word_in c.code_chunks.new.chunks n (j / 32) (j % 32))
    (λ i few. ap (column j) (sym (c.put_message.ensures i few))
    ∙ column-put put own.shard_bytes i j c.requires.configured.even inside)
    (λ i few. refl)
    (c.code_chunks.ensures.words (j / 32) (j % 32) (omega (arith, inside)) (omega arith))
