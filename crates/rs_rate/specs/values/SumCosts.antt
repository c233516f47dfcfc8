-- When direct sums cost less than transforms.
use Rattle.std.specs.Prelude.{ℕ, ◌*◌, ◌<◌}
use Rattle.rs_field.specs.code.Frame.{row_count}
use Rattle.rs_field.specs.declared.code.frame.Frame.{Frame}

-- direct sums over k received shards are used instead of transforms: their products, one for each sum and each of the k
-- shards, are fewer than four for each row of a decoder
unfoldable pub AreSumsCheaper : Frame → ℕ → ℕ → Type 0
AreSumsCheaper frame k sums = sums * k < 4 * row_count frame
