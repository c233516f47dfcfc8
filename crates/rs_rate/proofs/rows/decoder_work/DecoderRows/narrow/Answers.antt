use Rattle.std.proofs.Common.{◌≡◌, Ok, refl, ◌∙◌}
use Rattle.rs_rate.specs.rows.DecoderRoom.{decoder_chunks}
use Rattle.rs_rate.specs.rows.RowsLaws.{room_within}
use Rattle.rs_rate.specs.values.Configured.{rows_to_decode}
use Rattle.rs_rate.proofs.rows_lemmas.RowMaps.{hold_nothing, none-marked, nothing-given}
use Rattle.rs_rate.proofs.rows_lemmas.StateLemmas.{memory_outcome-fits}
use Rattle.rs_rate.proofs.values_lemmas.ConfiguredLemmas.{narrowed}
use Rattle.rs_rate.proofs.rows.decoder_work.DecoderRows.narrow.Goals as goal
use Rattle.rs_rate.proofs.rows.decoder_work.DecoderRows.narrow.Goals.{After-lay_out}

-- The memory has room for the smaller shards.
laid : (c : After-lay_out) → c.lay_out.result ≡ Ok tt
laid c =
    let w = c.args.self.now in
    let own = w.configuration in
    let room = room_within (rows_to_decode own) (rows_to_decode own) c.args.shard_bytes own.shard_bytes _ refl
    c.requires.shorter w.laid_out.sized w.laid_out.room in
    c.lay_out.ensures.roomy room.1
    ∙ memory_outcome-fits (decoder_chunks (record own { shard_bytes = c.args.shard_bytes })) room.0

pub invariant_of-self : goal.invariant_of-self
invariant_of-self c =
    let laid = laid (goal.at.invariant_of-self c).After-lay_out in
    record {
      configured = narrowed c.args.self.now.configured c.args.shard_bytes c.requires.some c.requires.even;
      laid_out = rw laid at c.lay_out.ensures.laid_out;
      given = hold_nothing _ _ (none-marked _ _ (rw laid at c.lay_out.ensures.empty));
    }

pub returns-clause-state : goal.returns-clause-state
returns-clause-state c = λ rate.
    nothing-given rate (record c.args.self.now.configuration { shard_bytes = c.args.shard_bytes }) _ (none-marked _ _
    (rw (laid (goal.at.returns-clause-state c).After-lay_out) at c.lay_out.ensures.empty))
