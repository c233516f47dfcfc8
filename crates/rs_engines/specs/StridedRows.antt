-- Rows at equal distances in a list of chunks.
use Rattle.std.specs.Prelude.{ℕ, nat_lt, if◌then◌else◌}
use Rattle.rs_field.specs.rows.Rows.{Chunks, word_in}

-- symbol s of chunk k of row i, if the row has this chunk: its chunks end where the next row begins, n chunks after it
unfoldable pub strided_word : Chunks → ℕ → ℕ → ℕ → ℕ → ℕ
strided_word chunks n k s i = if nat_lt k n then word_in chunks n k s i else 0
