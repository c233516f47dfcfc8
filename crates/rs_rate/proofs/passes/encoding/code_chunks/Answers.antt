use Rattle.std.proofs.Common.{◌≡◌, ℕ, rules, Bool, sym, ◌∙◌, subst, arith}
use Rattle.rs_field.specs.code.Counts.{low_rate, high_rate}
use Rattle.rs_field.specs.rows.Layout.{row_len}
use Rattle.rs_field.specs.rows.Rows.{word_in}
use Rattle.rs_rate.specs.passes.Coding.{CodesWords}
use Rattle.rs_rate.specs.values.Configured.{low_or_high}
use Rattle.rs_rate.proofs.passes_lemmas.Coded.{rows-read}
use Rattle.rs_rate.proofs.values_lemmas.ConfiguredLemmas.{configuration-by}
use Rattle.rs_rate.proofs.passes.encoding.code_chunks.Goals as goal

pub code_low-requires-clause-block : goal.code_low-requires-clause-block
code_low-requires-clause-block g c =
    c.block_rows-block.ensures
    ∙ (configuration-by c.requires.configured c.if-configuration.true).1

pub returns-then-configuration-clause-words : goal.returns-then-configuration-clause-words
returns-then-configuration-clause-words g c = λ k s inside symbols.
    let own = c.args.configuration in
    let n : ℕ = row_len own.shard_bytes in
    let len : c.new-rows.result.shard_len_64 ≡ n = c.new-rows.ensures.len_64 ∙ c.row_len-len.ensures in
    subst (λ (low : Bool).
    CodesWords (low_or_high low) own.original_count own.recovery_count (word_in c.args.chunks.now n k s)
    (word_in c.chunks-1.given.0 n k s)) (sym c.if-configuration.true)
    (rows-read low_rate own.original_count own.recovery_count n k s c.args.chunks.now c.chunks-1.given.0
    c.new-rows.result c.code_low.new.rows
    len (c.code_low.ensures.extent.len_64 ∙ len) c.new-rows.ensures.chunks (search rules)
    (c.code_low.ensures.words k s (omega arith) symbols))

pub code_high-requires-clause-block : goal.code_high-requires-clause-block
code_high-requires-clause-block g c =
    c.block_rows-block.ensures
    ∙ (configuration-by c.requires.configured c.if-configuration.false).1

pub returns-else-configuration-clause-words : goal.returns-else-configuration-clause-words
returns-else-configuration-clause-words g c = λ k s inside symbols.
    let own = c.args.configuration in
    let n : ℕ = row_len own.shard_bytes in
    let len : c.new-rows.result.shard_len_64 ≡ n = c.new-rows.ensures.len_64 ∙ c.row_len-len.ensures in
    subst (λ (low : Bool).
    CodesWords (low_or_high low) own.original_count own.recovery_count (word_in c.args.chunks.now n k s)
    (word_in c.chunks-else-configuration-1.given.0 n k s)) (sym c.if-configuration.false)
    (rows-read high_rate own.original_count own.recovery_count n k s c.args.chunks.now
    c.chunks-else-configuration-1.given.0 c.new-rows.result c.code_high.new.rows
    len (c.code_high.ensures.extent.len_64 ∙ len) c.new-rows.ensures.chunks (search rules)
    (c.code_high.ensures.words k s (omega arith) symbols))
