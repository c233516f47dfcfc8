-- The abstract state and the room of an encoder's rows and work.
use Rattle.std.specs.Prelude.{ℕ, List}
use Rattle.rs_field.specs.code.Column.{Shard}
use Rattle.rs_field.specs.code.Counts.{Rate}
use Rattle.rs_field.specs.code.Encoder.{EncoderState}
use Rattle.rs_field.specs.rows.Rows.{Chunks}
use Rattle.rs_field.specs.words.UpTo.{up_to}
use Rattle.rs_rate.specs.declared.values.configuration.Configuration.{Configuration}
use Rattle.rs_rate.specs.values.Configured.{configuration_at}
use Rattle.rs_rate.specs.declared.rows.encoder_work.EncoderRows.{EncoderRows}
use Rattle.rs_rate.specs.declared.rows.encoder_work.EncoderWork.{EncoderWork}
use Rattle.rs_rate.specs.rows.Memory.{room_of}
use Rattle.rs_rate.specs.rows.ShardRows.{shard_laid_out, shard_in_order}

-- the originals that were added, in order
abbrev pub given_originals : EncoderRows → List Shard
given_originals rows =
    up_to rows.originals_given (shard_laid_out rows.chunks.items rows.configuration.shard_bytes)

-- the state of an encoder of this rate over the rows
abbrev pub encoder_state : Rate → EncoderRows → EncoderState
encoder_state rate rows =
    record { configuration = configuration_at rate rows.configuration; given = given_originals rows }

-- the recovery shards in the first rows after a message was encoded
abbrev pub shards_in : Configuration → Chunks → List Shard
shards_in c chunks = up_to c.recovery_count (shard_in_order chunks c.shard_bytes)

-- the recovery shards in the rows after a round
abbrev pub lent_shards : EncoderRows → List Shard
lent_shards rows = shards_in rows.configuration rows.chunks.items

-- the number of chunks for which a work has room
abbrev pub work_room : EncoderWork → ℕ
work_room work = room_of work.chunks
