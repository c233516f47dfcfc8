-- The memory of a decoder: the room that it has, and how it is laid out for rows.
use Rattle.std.specs.Prelude.{◌≡◌, ◌*◌, ◌^◌, ◌<◌, ◌≤◌, ℕ, Option, Some, None, vec_len}
use Rattle.std.specs.Vec.{vec_capacity}
use Rattle.rs_rate.specs.declared.values.configuration.Configuration.{Configuration}
use Rattle.rs_rate.specs.values.Configured.{rows_to_decode}
use Rattle.rs_rate.specs.declared.rows.decoder_work.DecoderMemory.{DecoderMemory}
use Rattle.rs_rate.specs.declared.rows.decoder_work.DecoderWork.{DecoderWork}
use Rattle.rs_rate.specs.rows.Marks.{mark_count, mark_room}
use Rattle.rs_rate.specs.values.ChunkCounts.{chunk_count}

-- the number of chunks of the rows of a decoder
abbrev pub decoder_chunks : Configuration → ℕ
decoder_chunks c = chunk_count (rows_to_decode c) c.shard_bytes

-- the room of a decoder's memory: for how many chunks, for the marks of how many rows, and for how many entries of the
-- locator
pub record DecoderRoom : Type 0 where
  pub chunks : ℕ
  pub rows : ℕ
  pub entries : ℕ

-- the room that a decoder's memory has
abbrev pub memory_room : DecoderMemory → DecoderRoom
memory_room memory =
    record { chunks = vec_capacity memory.chunks; rows = mark_room memory.marks; entries = vec_capacity memory.entries }

-- the room of memory that another object passes on, if there is any
abbrev pub room_if : Option DecoderMemory → DecoderRoom
room_if None = record { chunks = 0; rows = 0; entries = 0 }
room_if (Some memory) = memory_room memory

-- the room of a work
abbrev pub work_room : DecoderWork → DecoderRoom
work_room work = room_if work.memory

-- there is room for a number of rows of shards of this size, so that nothing must be allocated
pub record HasRoom (room : DecoderRoom) (count size : ℕ) : Type 0 where
  pub chunks : chunk_count count size ≤ room.chunks
  pub rows : count ≤ room.rows
  pub entries : count ≤ room.entries

-- memory is laid out for a configuration: it has the chunks, the marks and the entries of all rows, and room for these
pub record IsLaidOut (c : Configuration) (memory : DecoderMemory) : Type 0 where
  pub whole : vec_len memory.chunks ≡ decoder_chunks c
  pub marked : mark_count memory.marks ≡ rows_to_decode c
  pub entries : vec_len memory.entries ≡ rows_to_decode c
  pub sized : decoder_chunks c * 64 < 2 ^ 64
  pub room : HasRoom (memory_room memory) (rows_to_decode c) c.shard_bytes

-- the new room is at least as large as the old room
pub record Grows (old new : DecoderRoom) : Type 0 where
  pub chunks : old.chunks ≤ new.chunks
  pub rows : old.rows ≤ new.rows
  pub entries : old.entries ≤ new.entries
