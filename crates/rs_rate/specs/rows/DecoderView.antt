-- The abstract state and the room of a decoder's rows and work.
use Rattle.std.specs.Prelude.{◌-◌, ℕ, List}
use Rattle.rs_field.specs.code.Column.{Shard}
use Rattle.rs_field.specs.code.Counts.{Rate}
use Rattle.rs_field.specs.code.Given.{Shards, items_from}
use Rattle.rs_field.specs.code.Decoder.{DecoderState}
use Rattle.rs_rate.specs.declared.values.configuration.Configuration.{Configuration}
use Rattle.rs_rate.specs.declared.rows.decoder_work.DecoderRows.{DecoderRows}
use Rattle.rs_rate.specs.values.Configured.{configuration_at}
use Rattle.rs_rate.specs.rows.Entering.{given_rows}
use Rattle.rs_rate.specs.rows.Marks.{restored_marks, restored_by_row, originals_in, recovery_in}

-- the state of a decoder of this rate with given shards in its rows
abbrev pub state_over : Rate → Configuration → Shards → DecoderState
state_over rate c rows =
    record { configuration = configuration_at rate c; originals = originals_in c rows; recovery = recovery_in c rows }

-- the state of a decoder of this rate over the rows
abbrev pub decoder_state : Rate → DecoderRows → DecoderState
decoder_state rate rows =
    state_over rate rows.configuration (given_rows rows.memory rows.configuration.shard_bytes)

-- the restored originals in a decoder's rows after a round
abbrev pub restored_by_rows : DecoderRows → Shards
restored_by_rows rows = originals_in rows.configuration
    (restored_by_row (restored_marks rows.memory.marks) rows.memory.chunks.items rows.configuration.shard_bytes)

-- the restored originals from an index on, with their indexes, in order of their index
abbrev pub restored_from : DecoderRows → ℕ → List (ℕ × Shard)
restored_from rows index = items_from index (rows.configuration.original_count - index) (restored_by_rows rows)
