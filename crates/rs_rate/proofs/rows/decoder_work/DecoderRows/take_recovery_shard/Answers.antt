use Rattle.std.proofs.Common.{ℕ, ◌+◌, sym, ap, ◌∙◌, subst, arith, length}
use Rattle.std.specs.Prelude.{is_some}
use Rattle.rs_field.specs.declared.code.error.Error.TheVariants.{DuplicateRecoveryShardIndex}
use Rattle.rs_field.specs.code.Outcome.{state_after}
use Rattle.rs_rate.specs.values.ChunkCounts.{chunk_count}
use Rattle.rs_rate.specs.values.Configured.{rows_to_decode}
use Rattle.rs_rate.specs.rows.DecoderView.{state_over}
use Rattle.rs_rate.specs.rows.Entering.{given_rows}
use Rattle.rs_rate.specs.rows.Marks.{HoldGiven}
use Rattle.rs_rate.proofs.rows_lemmas.AddedShards.{recovery-added, entry-free}
use Rattle.rs_rate.proofs.values_lemmas.ConfiguredLemmas.{places-known}
use Rattle.rs_rate.proofs.rows_lemmas.RowMaps.{hold-most, hold-recovery}
use Rattle.rs_rate.proofs.rows_lemmas.ShardRowsLemmas.{chunk_count-within}
use Rattle.rs_rate.proofs.rows.decoder_work.DecoderRows.take_recovery_shard.Goals as goal

pub enter-requires-clause-room : goal.enter-requires-clause-room
enter-requires-clause-room c =
    let w = c.args.self.now in
    let own = w.configuration in
    let within = chunk_count-within c.recovery_row-row.result (rows_to_decode own) own.shard_bytes
    (length w.memory.chunks.items)
    (omega (arith, c.requires.index, c.recovery_row-row.ensures, w.configured.other_rows))
    (omega (arith, w.laid_out.whole)) in
    let same = ap (λ (n : ℕ). chunk_count (c.recovery_row-row.result + 1) n) c.requires.size in
    omega (arith, same, within, w.laid_out.whole)

pub overflow_add-self : goal.overflow_add-self
overflow_add-self c =
    let w = c.args.self.now in
    let most = hold-most w.given in
    omega (arith, most.0, most.1)

pub invariant_of-self : goal.invariant_of-self
invariant_of-self c =
    let w = c.args.self.now in
    let own = w.configuration in
    record {
      configured = w.configured;
      laid_out = c.enter.ensures.laid w.configuration w.laid_out;
      given = subst (HoldGiven own w.originals_given (w.recovery_given + 1))
          (sym (rw (c.recovery_row-row.ensures, c.requires.size) at c.enter.ensures.rows))
          (hold-recovery (places-known w.configured) w.given c.args.index c.args.shard.now
          (rw c.requires.size at c.enter.ensures.shard) c.requires.index c.requires.free);
    }

pub returns-clause-left : goal.returns-clause-left
returns-clause-left c = λ rate.
    let w = c.args.self.now in
    let own = w.configuration in
    let rows = given_rows w.memory own.shard_bytes in
    let row = c.recovery_row-row.result in
    let at = c.recovery_row-row.ensures in
    let repeated = DuplicateRecoveryShardIndex c.args.index in
    let free = entry-free rows row own.shard_bytes repeated c.args.shard.now
    (ap is_some (ap rows at ∙ c.requires.free)) c.requires.size in
    ap (state_over rate own) (rw c.requires.size at c.enter.ensures.rows ∙ sym (ap (state_after rows) free))
    ∙ (recovery-added rate own (places-known w.configured) rows c.args.index c.args.shard.now row at
    c.requires.index).state
