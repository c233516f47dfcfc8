-- The number of chunks of rows, and the outcome of allocating them.
use Rattle.std.specs.Prelude.{ℕ, ◌*◌, ◌^◌, nat_le, if◌then◌else◌, Result, Ok, Err}
use Rattle.rs_field.specs.declared.code.error.Error.{Error}
use Rattle.rs_field.specs.declared.code.error.Error.TheVariants.{OutOfMemory}
use Rattle.rs_field.specs.rows.Layout.{row_len}

-- the number of chunks of n rows for shards of this size
unfoldable pub chunk_count : ℕ → ℕ → ℕ
chunk_count rows size = rows * row_len size

-- the outcome of allocating n chunks if there is memory; more than `usize::MAX` bytes can never be allocated
abbrev pub memory_outcome : ℕ → Result (Unit {0}) Error
memory_outcome chunks = if nat_le (2 ^ 64) (chunks * 64) then Err OutOfMemory else Ok tt
