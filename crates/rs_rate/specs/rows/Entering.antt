-- The given shards in the rows of a decoder, and entering one more.
use Rattle.std.specs.Prelude.{ℕ, length, not, is_some, ◌==◌, if◌then◌else◌, Result, Ok, Err}
use Rattle.rs_field.specs.declared.code.error.Error.{Error}
use Rattle.rs_field.specs.declared.code.error.Error.TheVariants.{DifferentShardSize}
use Rattle.rs_field.specs.code.Column.{Shard}
use Rattle.rs_field.specs.code.Given.{Shards, with_entry}
use Rattle.rs_rate.specs.declared.rows.decoder_work.DecoderMemory.{DecoderMemory}
use Rattle.rs_rate.specs.rows.Marks.{given_marks, shards_by_row}

-- the given shards in a decoder's memory, by their rows
abbrev pub given_rows : DecoderMemory → ℕ → Shards
given_rows memory size = shards_by_row (given_marks memory.marks) memory.chunks.items size

-- the outcome of entering a shard in a row: an error if the row holds a shard already, an error if the shard has
-- another size, else the shards with the new one in its row
abbrev pub entry_outcome : Shards → ℕ → ℕ → Error → Shard → Result Shards Error
entry_outcome rows row size repeated shard =
    if is_some (rows row) then Err repeated
    else if not (length shard == size) then Err (DifferentShardSize size (length shard))
    else Ok (with_entry rows row shard)
