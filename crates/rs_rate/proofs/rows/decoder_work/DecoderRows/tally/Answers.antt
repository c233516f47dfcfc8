use Rattle.std.proofs.Common.{ℕ, Bool, arith, sym, ◌∙◌}
use Rattle.std.specs.Prelude.{is_some}
use Rattle.rs_field.proofs.code_lemmas.Entries.{all_some}
use Rattle.rs_rate.specs.values.Configured.{rate_of, rows_to_decode}
use Rattle.rs_rate.specs.rows.Entering.{given_rows}
use Rattle.rs_rate.specs.rows.Marks.{given_marks, originals_in}
use Rattle.rs_rate.specs.rows.ShardRows.{shard_laid_out}
use Rattle.rs_rate.proofs.values_lemmas.FrameLemmas.{supported-in_field}
use Rattle.rs_field.specs.code.Column.{Shard}
use Rattle.rs_field.specs.code.Frame.{original_row}
use Rattle.rs_field.specs.rows.MarkedRows.{is_marked}
use Rattle.rs_rate.proofs.values_lemmas.ConfiguredLemmas.{places-known}
use Rattle.rs_rate.proofs.rows_lemmas.HowMany.{how_many-same, how_many-not, many_originals, many_rows}
use Rattle.rs_rate.proofs.rows_lemmas.RowMaps.{given_if_some, hold-most, some-marked, part-marked}
use Rattle.rs_rate.proofs.rows.decoder_work.DecoderRows.tally.Goals as goal

pub overflow_add-given : goal.overflow_add-given
overflow_add-given c =
    let w = c.args.self.now in
    let most = hold-most w.given in
    omega (arith, most.0, most.1)

pub overflow_sub-result : goal.overflow_sub-result
overflow_sub-result c =
    let w = c.args.self.now in
    (hold-most w.given).0

pub returns-clause-missing : goal.returns-clause-missing
returns-clause-missing c =
    let w = c.args.self.now in
    let most = hold-most w.given in
    omega (arith, most.0)

pub returns-clause-facts : goal.returns-clause-facts
returns-clause-facts c =
    let w = c.args.self.now in
    let own = w.configuration in
    let rows = given_rows w.memory own.shard_bytes in
    let most = hold-most w.given in
    let held : ℕ → Shard = shard_laid_out w.memory.chunks.items own.shard_bytes in
    let frame = places-known w.configured in
    let some = (supported-in_field (rate_of own) own.original_count own.recovery_count w.configured.supported).0 in
    record {
      configured = w.configured;
      marked = w.laid_out.marked;
      shards = given_if_some own w.originals_given w.recovery_given w.memory.marks
          (shard_laid_out w.memory.chunks.items own.shard_bytes) (omega (arith, some, c.requires)) w.given;
      given = how_many-same (rows_to_decode own) (is_marked (given_marks w.memory.marks)) (λ p. is_some (rows p))
          (λ p hp. sym (some-marked (given_marks w.memory.marks) held p))
          ∙ many_rows frame w.given ∙ omega (arith, most.0, c.requires);
      missing =
          let has : ℕ → Bool = λ i. is_marked (given_marks w.memory.marks) (original_row own.frame i) in
          let some = how_many-same own.original_count has (λ i. is_some (rows (original_row own.frame i)))
          (λ i hi. sym (some-marked (given_marks w.memory.marks) held (original_row own.frame i)))
          ∙ many_originals frame w.given in
          omega (arith, how_many-not own.original_count has, some);
      none_missing = λ none i inside.
          sym (part-marked (given_marks w.memory.marks) held own.frame.originals_from own.original_count i inside)
          ∙ all_some own.original_count (originals_in own rows)
          (omega (arith, none, most.0, w.given.originals_counted)) i inside;
      few_surplus = omega (arith, most.0, most.1, w.configured.other_rows);
    }
