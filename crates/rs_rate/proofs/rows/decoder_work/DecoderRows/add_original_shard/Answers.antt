use Rattle.std.proofs.Common.{rules, ◌≡◌, ◌∙◌}
use Rattle.std.specs.Prelude.{Err}
use Rattle.rs_field.specs.code.Counts.{Rate}
use Rattle.rs_field.specs.code.Decoder.{with_original}
use Rattle.rs_field.specs.declared.code.error.Error.TheVariants.{DuplicateOriginalShardIndex}
use Rattle.rs_rate.specs.rows.DecoderView.{decoder_state}
use Rattle.rs_rate.specs.rows.Entering.{given_rows, entry_outcome}
use Rattle.rs_rate.proofs.rows_lemmas.AddedShards.{IsEntered, original-added, unchanged}
use Rattle.rs_rate.proofs.values_lemmas.ConfiguredLemmas.{places-known}
use Rattle.rs_rate.proofs.rows.decoder_work.DecoderRows.add_original_shard.Goals as goal
use Rattle.rs_rate.proofs.rows.decoder_work.DecoderRows.add_original_shard.Goals.{After-check_entry}

-- The outcome of the call is that of entering the shard in its row.
added : (c : After-check_entry) (rate : Rate)
    → IsEntered rate c.args.self.now.configuration
    (given_rows c.args.self.now.memory c.args.self.now.configuration.shard_bytes)
    (entry_outcome (given_rows c.args.self.now.memory c.args.self.now.configuration.shard_bytes)
    c.original_row-row.result c.args.self.now.configuration.shard_bytes (DuplicateOriginalShardIndex c.args.index)
    c.args.shard.now)
    (with_original (decoder_state rate c.args.self.now) c.args.index c.args.shard.now)
added c rate = search (rules, original-added, places-known)

pub returns-in_err-check_entry-clause-answer : goal.returns-in_err-check_entry-clause-answer
returns-in_err-check_entry-clause-answer c = λ rate.
    let refused : c.from_residual.result ≡ Err c.in_err-check_entry.field-0.0 = search rules in
    refused ∙ c.in_err-check_entry.ensures.answer
    ∙ (added (goal.at.returns-in_err-check_entry-clause-answer c).After-check_entry rate).answer

pub returns-in_err-check_entry-clause-left : goal.returns-in_err-check_entry-clause-left
returns-in_err-check_entry-clause-left c = λ rate.
    unchanged (decoder_state rate c.args.self.now) (with_original (decoder_state rate c.args.self.now) c.args.index
    c.args.shard.now) c.in_err-check_entry.field-0.0 (c.in_err-check_entry.ensures.answer
    ∙ (added (goal.at.returns-in_err-check_entry-clause-left c).After-check_entry rate).answer)

pub returns-clause-answer : goal.returns-clause-answer
returns-clause-answer c = λ rate.
    c.in_ok-check_entry.ensures.answer ∙ (added (goal.at.returns-clause-answer c).After-check_entry rate).answer
