use Rattle.std.proofs.Common.{ℕ, ◌+◌, ap, sym, ◌∙◌, true≢false, arith}
use Rattle.std.specs.Prelude.{not}
use Rattle.rs_field.specs.code.Column.{column}
use Rattle.rs_field.specs.rows.Layout.{row_len}
use Rattle.rs_field.proofs.code_lemmas.DecodeSteps.{counts_decode}
use Rattle.rs_field.proofs.words_lemmas.Counting.{counts_none}
use Rattle.rs_field.specs.rows.Rows.{word_in}
use Rattle.rs_rate.specs.values.Configured.{rows_to_decode}
use Rattle.rs_rate.specs.passes.Decoding.{find_steps}
use Rattle.rs_rate.proofs.rows_lemmas.ShardRowsLemmas.{column-put}
use Rattle.rs_rate.proofs.passes.decoding.restore.Goals as goal

pub returns-then-found-clause-restored : goal.returns-then-found-clause-restored
returns-then-found-clause-restored g c some =
    let s = c.args.tally.configuration in
    let n : ℕ = row_len s.shard_bytes in
    let mid = c.find_words-found.new.chunks in
    let missing = c.find_words-found.ensures.marks in
    record {
      words = word_in mid n;
      found = c.find_words-found.ensures.words;
      shards = λ _ i j inside hj none.
          ap (column j) (c.move_restored_tails.ensures.moved i inside (missing.missing i inside ∙ ap not none))
          ∙ column-put mid s.shard_bytes
          (s.frame.originals_from + i) j c.requires.facts.configured.even hj;
    }

pub returns-else-found-clause-restored : goal.returns-else-found-clause-restored
returns-else-found-clause-restored g c some =
    let s = c.args.tally.configuration in
    let n : ℕ = row_len s.shard_bytes in
    let mid = c.find_words-found.new.chunks in
    record {
      words = word_in mid n;
      found = c.find_words-found.ensures.words;
      shards = λ agreed. absurd (true≢false (sym agreed ∙ c.if-found.false));
    }

pub returns-then-found-clause-counts : goal.returns-then-found-clause-counts
returns-then-found-clause-counts g c =
    let s = c.args.tally.configuration in
    counts_decode (rows_to_decode s) (find_steps s) s.original_count c.args.steps.now
    c.find_words-found.new.steps c.move_restored_tails.new.steps
    (omega (arith, c.requires.facts.configured.own_rows))
    c.find_words-found.ensures.counts c.move_restored_tails.ensures.counts

pub returns-else-found-clause-counts : goal.returns-else-found-clause-counts
returns-else-found-clause-counts g c =
    let s = c.args.tally.configuration in
    counts_decode (rows_to_decode s) (find_steps s) 0 c.args.steps.now
    c.find_words-found.new.steps c.find_words-found.new.steps
    (omega (arith, c.requires.facts.configured.own_rows))
    c.find_words-found.ensures.counts (counts_none)
