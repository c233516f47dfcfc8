-- How many steps an encode and a decode may count.
use Rattle.std.specs.Prelude.{ℕ, ◌+◌, ◌*◌, ◌/◌}
use Rattle.rs_field.specs.declared.words.steps.Steps.{Steps}
use Rattle.rs_field.specs.code.Counts.{Rate}
use Rattle.rs_field.specs.code.Frame.{block_rows, encoder_rows, decoder_rows}
pub use Rattle.rs_field.specs.words.StepBounds.{CountsUpTo, CountsRows, CountsPairs, CountsProducts, WalshCounts}
pub use Rattle.rs_field.specs.words.StepBounds.{LocatorCountsBelow, LocatorCounts, TransformCounts, RowProductCounts}
pub use Rattle.rs_field.specs.words.StepBounds.{RowSumCounts}
unfoldable pub use Rattle.rs_field.specs.words.StepBounds.{log2, transform_steps}

-- a bound on the row steps of an encode with c blocks of m rows: c + 1 transforms of m rows, and two steps for each row
unfoldable pub encode_steps : ℕ → ℕ → ℕ
encode_steps c m = (c + 1) * transform_steps m + 2 * c * m

-- a bound on the row steps of an encode for these counts
abbrev pub encode_steps_at : Rate → ℕ → ℕ → ℕ
encode_steps_at rate k r = encode_steps (encoder_rows rate k r / block_rows rate k r) (block_rows rate k r)

-- a bound on the row steps of a decode with w rows: three transforms, and four steps for each row; a test whether a row
-- is zero is one step
unfoldable pub decode_steps : ℕ → ℕ
decode_steps w = 3 * w / 2 * log2 w + 4 * w

-- a bound on the row steps of a decode for these counts
abbrev pub decode_steps_at : Rate → ℕ → ℕ → ℕ
decode_steps_at rate k r = decode_steps (decoder_rows rate k r)

-- an encode for these counts counts at most these steps
abbrev pub EncodeCountsAt : Rate → ℕ → ℕ → Steps → Steps → Type 0
EncodeCountsAt rate k r old new = CountsUpTo (encode_steps_at rate k r) 0 0 old new

-- a decode with w rows counts at most its row steps and the steps of one locator
abbrev pub DecodeCounts : ℕ → Steps → Steps → Type 0
DecodeCounts w old new = CountsUpTo (decode_steps w) 1048576 65536 old new

-- a decode for these counts counts at most these steps
abbrev pub DecodeCountsAt : Rate → ℕ → ℕ → Steps → Steps → Type 0
DecodeCountsAt rate k r old new = DecodeCounts (decoder_rows rate k r) old new
