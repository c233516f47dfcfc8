-- The abstract state, the engine and the room of a plain decoder.
use mir.Syntax.{named}
use Rattle.std.specs.Prelude.{◌≡◌, []}
use Rattle.std.specs.Borrow.{MutBor, Fml}
use Rattle.rs_field.specs.code.Counts.{default_rate}
use Rattle.rs_field.specs.code.Decoder.{DecoderState, after_decode}
use Rattle.rs_engines.specs.declared.engine_default.DefaultEngine.{DefaultEngine}
use Rattle.rs_rate.specs.rows.DecoderRoom.{DecoderRoom, memory_room}
use Rattle.rs_rate.specs.rows.DecoderView.{decoder_state}
use Rattle.rs_rate.specs.objects.Loan.{AfterLoan}
use Rattle.reed_solomon_simd.specs.contracts.decoder.ReedSolomonDecoder.{the_row}
use Rattle.reed_solomon_simd.specs.declared.decoder.ReedSolomonDecoder.{ReedSolomonDecoder}

-- the configuration of a decoder, and the shards that were added in the current round
abbrev pub state_of : ReedSolomonDecoder → DecoderState
state_of object = decoder_state default_rate object.decoder.rows

-- the engine of a decoder
abbrev pub engine_of : ReedSolomonDecoder → DefaultEngine
engine_of object = object.decoder.engine

-- the room of a decoder
abbrev pub room_of : ReedSolomonDecoder → DecoderRoom
room_of object = memory_room object.decoder.rows.memory

-- when the loan of the restored originals ends, the decoder has the state after a decode, and its engine and its room
-- are unchanged
abbrev pub EndsDecode : MutBor ReedSolomonDecoder → ReedSolomonDecoder → Fml
EndsDecode object old =
    AfterLoan (the_row (record { mir = named 1; lft = [] })) object
    (λ now. (state_of now ≡ after_decode (state_of old)) × (engine_of now ≡ engine_of old)
    × (room_of now ≡ room_of old))
