-- The configuration of an encoder or a decoder of a rate, and its rows.
use Rattle.std.specs.Prelude.{◌≡◌, ◌≤◌, ◌%◌, ◌<◌, ℕ, Bool, true, if◌then◌else◌, Option, Some, None}
use Rattle.rs_field.specs.code.Counts.{Rate, low_rate, high_rate, supports}
use Rattle.rs_field.specs.code.Configuration.{Configuration as AsDefined, configuration}
use Rattle.rs_field.specs.code.Frame.{frame_of, frame_at, row_count, original_row, recovery_row, encoder_rows}
use Rattle.rs_field.specs.code.Frame.{decoder_rows}
use Rattle.rs_field.specs.declared.code.frame.Frame.{Frame}
use Rattle.rs_rate.specs.declared.values.configuration.Configuration.{Configuration}

-- the frame of a rate for these counts, if the rate supports them
abbrev pub frame_if : Rate → ℕ → ℕ → Option Frame
frame_if rate k r = if supports rate k r then Some (frame_of rate k r) else None

-- a configuration together with the name of its rate
abbrev pub configuration_at : Rate → Configuration → AsDefined
configuration_at rate c = configuration rate c.original_count c.recovery_count c.shard_bytes

-- a configuration together with the frame of its rate for its counts
abbrev pub with_frame : AsDefined → Configuration
with_frame asked = record {
  original_count = asked.original_count;
  recovery_count = asked.recovery_count;
  shard_bytes = asked.shard_bytes;
  frame = frame_at asked;
}

-- the low rate or the high rate
abbrev pub low_or_high : Bool → Rate
low_or_high low = if low then low_rate else high_rate

-- the rate whose frame a configuration has
abbrev pub rate_of : Configuration → Rate
rate_of c = low_or_high c.frame.is_low

-- the number of rows of a block
abbrev pub block_of : Configuration → ℕ
block_of c = if c.frame.is_low then c.frame.recovery_from else c.frame.originals_from

-- the number of rows of an encoder
abbrev pub rows_to_encode : Configuration → ℕ
rows_to_encode c = encoder_rows (rate_of c) c.original_count c.recovery_count

-- the number of rows of a decoder
abbrev pub rows_to_decode : Configuration → ℕ
rows_to_decode c = row_count c.frame

-- a configuration is valid: its size is positive and even, and its rate supports its counts. Its frame and the rows of
-- its decoder are those of this rate, and both a decoder and an encoder have rows for all shards
pub record IsConfigured (c : Configuration) : Type 0 where
  pub positive : 0 < c.shard_bytes
  pub even : c.shard_bytes % 2 ≡ 0
  pub supported : supports (rate_of c) c.original_count c.recovery_count ≡ true
  pub framed : c.frame ≡ frame_of (rate_of c) c.original_count c.recovery_count
  pub rows : rows_to_decode c ≡ decoder_rows (rate_of c) c.original_count c.recovery_count
  pub few : c.frame.exponent ≤ 16
  pub own_rows : original_row c.frame c.original_count ≤ rows_to_decode c
  pub other_rows : recovery_row c.frame c.recovery_count ≤ rows_to_decode c
  pub originals : c.original_count ≤ rows_to_encode c
  pub recovery : c.recovery_count ≤ rows_to_encode c
