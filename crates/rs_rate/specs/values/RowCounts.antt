-- Laws of the numbers of rows and of chunks.
use Rattle.std.specs.Prelude.{◌≡◌, ℕ, ◌*◌, ◌^◌, ◌<◌, ◌≤◌, if◌then◌else◌}
use Rattle.std.proofs.Common.{ap, arith}
use Rattle.std.proofs.Math.Nat.{mul-le-mul_left}
use Rattle.rs_field.specs.rows.Layout.{row_len}
use Rattle.rs_field.specs.code.Counts.{Rate, next_power, is_low}
use Rattle.rs_field.specs.code.Frame.{encoder_rows, decoder_rows, next_multiple, frame_of, low_frame, high_frame}
use Rattle.rs_field.specs.code.Frame.{row_count}
use Rattle.rs_rate.specs.declared.values.configuration.Configuration.{Configuration}
use Rattle.rs_rate.specs.values.Configured.{rate_of}
use Rattle.rs_rate.specs.values.SetUp.{IsSetUp, rows_of}
use Rattle.rs_rate.specs.values.ChunkCounts.{chunk_count}

-- two rates have the same number of encoder rows for counts for which they are both the low rate or both the high rate
pub encoder_rows_alike : (one other : Rate) (k r : ℕ) → is_low one k r ≡ is_low other k r
    → encoder_rows one k r ≡ encoder_rows other k r
unfolding encoder_rows
encoder_rows_alike one other k r same =
    ap (λ b. if b then next_multiple r (next_power k) else next_multiple k (next_power r)) same

-- the rows that an encoder is set up with are the rows of its rate
pub encoder_rows_set_up : (rate : Rate) (c : Configuration) → IsSetUp rate c
    → rows_of encoder_rows c ≡ encoder_rows rate c.original_count c.recovery_count
encoder_rows_set_up rate c is =
    encoder_rows_alike (rate_of c) rate c.original_count c.recovery_count is.alike

-- the rows that a decoder is set up with are the rows of its rate
pub decoder_rows_set_up : (rate : Rate) (c : Configuration) → IsSetUp rate c
    → rows_of decoder_rows c ≡ decoder_rows rate c.original_count c.recovery_count
unfolding frame_of
decoder_rows_set_up rate c is =
    ap (λ b. row_count (if b then low_frame c.original_count c.recovery_count
    else high_frame c.original_count c.recovery_count)) is.alike

-- rows for larger shards have at least as many chunks
pub chunk_count-size : (n a b : ℕ) → a ≤ b → chunk_count n a ≤ chunk_count n b
unfolding chunk_count
chunk_count-size n a b h = let longer : row_len a ≤ row_len b = omega (arith, h) in mul-le-mul_left n longer

-- if there is room for rows, there is room for the same number of rows for shards that are not larger, and these rows
-- have at most `usize::MAX` bytes
pub chunks_within : (n rows size own room : ℕ) → rows ≡ n → size ≤ own → chunk_count rows own * 64 < 2 ^ 64
    → chunk_count rows own ≤ room
    → (chunk_count n size * 64 < 2 ^ 64) × (chunk_count n size ≤ room)
chunks_within n rows size own room same less sized roomy =
    let within : chunk_count n size ≤ chunk_count rows own = rw same (chunk_count-size n size own less) in
    (omega (arith, within, sized), omega (arith, within, roomy))
