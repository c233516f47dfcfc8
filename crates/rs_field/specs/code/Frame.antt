-- The frame of a code: the points of its shards, and the rows of a decoder. A point is a number from 0 to 65535.
use Rattle.std.specs.Prelude.{ℕ, ◌+◌, ◌-◌, ◌*◌, ◌/◌, ◌^◌, true, false, if◌then◌else◌}
use Rattle.rs_field.specs.code.Counts.{Rate, next_power, exponent_of, is_low}
use Rattle.rs_field.specs.code.Configuration.{Configuration}
use Rattle.rs_field.specs.declared.code.frame.Frame.{Frame}

-- the low rate, with m the power of k: originals have the points from 0 on, recovery shards those from m on, and k to m
-- - 1 are the zero points; a decoder has the power of m + r as its number of rows
unfoldable pub low_frame : ℕ → ℕ → Frame
low_frame k r =
    let m = next_power k in
    record {
      is_low = true;
      exponent = exponent_of (m + r);
      originals_from = 0;
      recovery_from = m;
      zeros_from = k;
      zeros_to = m;
    }

-- the high rate, with m the power of r: recovery shards have the points from 0 on, originals those from m on, and m + k
-- to 65535 are the zero points; a decoder has the power of m + k as its number of rows
unfoldable pub high_frame : ℕ → ℕ → Frame
high_frame k r =
    let m = next_power r in
    record {
      is_low = false;
      exponent = exponent_of (m + k);
      originals_from = m;
      recovery_from = 0;
      zeros_from = m + k;
      zeros_to = 65536;
    }

-- the frame of a rate for these counts
unfoldable pub frame_of : Rate → ℕ → ℕ → Frame
frame_of rate k r = if is_low rate k r then low_frame k r else high_frame k r

-- the frame of a configuration
abbrev pub frame_at : Configuration → Frame
frame_at c = frame_of c.rate c.original_count c.recovery_count

-- a bound on the degree: there is one coefficient for each point from the first original to the last zero point
abbrev pub degree_bound : Frame → ℕ
degree_bound frame = frame.zeros_to - frame.originals_from

-- the point of an original
abbrev pub original_point : Frame → ℕ → ℕ
original_point frame index = frame.originals_from + index

-- the point of a recovery shard
abbrev pub recovery_point : Frame → ℕ → ℕ
recovery_point frame index = frame.recovery_from + index

-- the number of rows of a decoder, one for each of the first points
abbrev pub row_count : Frame → ℕ
row_count frame = 2 ^ frame.exponent

-- the row of an original in a decoder: the row of its point
abbrev pub original_row : Frame → ℕ → ℕ
original_row frame index = original_point frame index

-- the row of a recovery shard in a decoder: the row of its point
abbrev pub recovery_row : Frame → ℕ → ℕ
recovery_row frame index = recovery_point frame index

-- the number m of rows of a block: the power of k at the low rate, and the power of r at the high rate
unfoldable pub block_rows : Rate → ℕ → ℕ → ℕ
block_rows rate k r = if is_low rate k r then next_power k else next_power r

-- n rounded up to a multiple of m
abbrev pub next_multiple : ℕ → ℕ → ℕ
next_multiple n m = (n + m - 1) / m * m

-- the number of rows of an encoder: the number of recovery shards at the low rate, or of originals at the high rate,
-- rounded up to whole blocks
unfoldable pub encoder_rows : Rate → ℕ → ℕ → ℕ
encoder_rows rate k r = if is_low rate k r then next_multiple r (next_power k) else next_multiple k (next_power r)

-- the number of rows of a decoder: at the low rate the power of m + r, with m the power of k; at the high rate the
-- power of m + k, with m the power of r
abbrev pub decoder_rows : Rate → ℕ → ℕ → ℕ
decoder_rows rate k r = row_count (frame_of rate k r)
