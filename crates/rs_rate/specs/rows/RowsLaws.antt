-- Laws of an object's rows: about a work that a caller may leave out, and about the room of a decoder.
use Rattle.std.specs.Prelude.{◌≡◌, ℕ, ◌*◌, ◌^◌, ◌<◌, ◌≤◌, Option, Some, None, IfSome}
use Rattle.std.proofs.Common.{arith}
use Rattle.rs_rate.specs.rows.DecoderRoom.{DecoderRoom, HasRoom}
use Rattle.rs_rate.specs.values.ChunkCounts.{chunk_count}
use Rattle.rs_rate.specs.values.RowCounts.{chunks_within}

-- a property of every value holds for the value that is passed, if there is one
pub some_anyway : {W : Type 0} (passed : Option W) (P : W → Type 0) → ((w : W) → P w) → IfSome passed P
some_anyway None P each = tt
some_anyway (Some w) P each = each w

-- a decoder that has room for its own rows has room for the same number of rows for shards that are not larger
pub room_within : (n rows size own : ℕ) (room : DecoderRoom) → rows ≡ n → size ≤ own
    → chunk_count rows own * 64 < 2 ^ 64 → HasRoom room rows own
    → (chunk_count n size * 64 < 2 ^ 64) × HasRoom room n size
room_within n rows size own room same less sized roomy =
    let chunks = chunks_within n rows size own room.chunks same less sized roomy.chunks in (
      chunks.0,
      record {
        chunks = chunks.1;
        rows = omega (arith, same, roomy.rows);
        entries =
            omega (arith, same, roomy.entries);
      },
    )
